-- The two lists that a dump may give (RFC 1833 sections 2.2.1 and 3.2).
use Rattle.std.specs.Prelude.{List, Option, Some}
use Rattle.xdr_types.specs.Tree.{Tree}
use Rattle.registry_rows.specs.Rows.{Row}
use Rattle.registry_dumps.specs.Dumps.{rpcb_tree, rpcb_list, mapping_row, mapping_list}
use Rattle.rpc_directory.specs.declared.dumps.Listing.{Listing}
use Rattle.rpc_directory.specs.declared.dumps.Listing.TheVariants.{Rpcbs, Mappings}

-- what a row adds to a list
abbrev pub item_of : Listing → Row → Option Tree
item_of Rpcbs r = Some (rpcb_tree r)
item_of Mappings r = mapping_row r

-- the list of all rows
abbrev pub list_of : Listing → List Row → Tree
list_of Rpcbs rows = rpcb_list rows
list_of Mappings rows = mapping_list rows
