-- What a call came to, put together.
use Rattle.std.proofs.Common.{◌≡◌, ℕ, ◌+◌, ◌-◌, ◌%◌, ◌≤◌, ◌<◌, ◌⊎◌, mod-lt, append-nil, List, ◌++◌, length}
use Rattle.std.proofs.Common.{None, refl, ap, sym, ◌∙◌, subst, arith}
use Rattle.std.proofs.lemmas.List.{length-append}
use Rattle.xdr_types.specs.Tree.{Tree}
use Rattle.xdr_units.specs.Numbers.{word, num4, number_of, padded}
use Rattle.xdr_types.specs.Spelling.{bytes_of}
use Rattle.xdr_laws.specs.Laws.{WholeExactly}
use Rattle.rpc_message.specs.Heads.{accepted, accepted_head}
use Rattle.rpc_message.specs.Message.{CallView, StatusView, Success, ProgUnavail, ProgMismatch, ProcUnavail}
use Rattle.rpc_message.specs.Message.{GarbageArgs}
use Rattle.rpc_message.specs.Spelling.{reply, IsStatus}
use Rattle.registry_rows.specs.Rows.{Row, row_of}
use Rattle.registry_rows.specs.Steps.{Step, set, unset, getversaddr}
use Rattle.registry_rows.specs.LookUp.{getaddr}
use Rattle.registry_rows.specs.Ports.{set_port, unset_port, get_port}
use Rattle.registry_rows.specs.Program.{program, lowest_version, highest_version}
use Rattle.registry_dumps.specs.Dumps.{mapping_of, rpcb_tree, rpcb_list, mapping_list, content, dump_limits}
use Rattle.registry_dumps.specs.Dir.{dir_kinds, void_kind, bool_kind, string_kind, rpcb_kind, rpcb_list_kind}
use Rattle.registry_dumps.specs.Dir.{mapping_kind, mapping_list_kind}
use Rattle.registry_answer.specs.Private.Parsed.{text}
use Rattle.registry_answer.proofs.Chains.{then}
use Rattle.registry_answer.proofs.Decoded.{decoded}
use Rattle.registry_answer.proofs.Fields.{length-padded}
use Rattle.registry_answer.specs.Procedures.{Procedure, null, set_2, unset_2, getport_2, dump_2, set_3, unset_3}
use Rattle.registry_answer.specs.Procedures.{getaddr_3, dump_3, getversaddr_4, procedure_at, void, reported}
use Rattle.registry_answer.specs.Answer.{AreArguments, AreGarbage, IsVersion, IsCallOf, ComesTo, no_program, no_version}
use Rattle.registry_answer.specs.Answer.{no_procedure, garbage, success}
use Rattle.registry_answer.specs.Answering.{most}
use Rattle.registry_answer.specs.Private.Pushes.{PushesStatus, Reports}

-- any bytes begin with no arguments
pub no_arguments : WholeExactly dir_kinds → (args : List ℕ) → AreArguments void_kind args void
no_arguments exact args = decoded exact void_kind args void
    (record { fits = (refl, (omega arith, omega arith)); rest = args; is = refl })

module _ (rows : List Row) (netid owner : List ℕ) (c : CallView) (old out : List ℕ) where
  -- a reply of at most so many bytes was added
  pub puts : (new : List Row) (status : StatusView) → ComesTo rows netid owner c new status → IsStatus status
      → out ≡ old ++ reply (accepted c.xid status) → length (reply (accepted c.xid status)) ≤ most
      → PushesStatus rows netid owner c old new out
  puts new status comes fits e few = record {
    status = status;
    comes = comes;
    fits = fits;
    added = e;
    short =
        omega (arith, ap length e, length-append old (reply (accepted c.xid status)), few);
  }

  -- a reply with results
  pub pushes_results : (p : Procedure) (t : Tree) (new : List Row) → IsCallOf c p → AreArguments p.takes c.args t
      → new ≡ (p.step rows netid owner t).0
      → out ≡ old ++ (accepted_head c.xid 0 ++ bytes_of dir_kinds p.gives (p.step rows netid owner t).1)
      → length (bytes_of dir_kinds p.gives (p.step rows netid owner t).1) ≤ dump_limits.bytes
      → PushesStatus rows netid owner c old new out
  pushes_results p t new of are is e few =
      let results = bytes_of dir_kinds p.gives (p.step rows netid owner t).1 in
      let long : length (accepted_head c.xid 0 ++ results) ≡ 24 + length results =
      length-append (accepted_head c.xid 0) results in
      puts new (Success results) (subst (λ (x : List Row). ComesTo rows netid owner c x (Success results)) (sym is)
      (success p t of are)) tt e (omega (arith, long, few))

  -- a reply that tells of a step
  pub pushes_reported : (p : Procedure) (t : Tree) (new : List Row) (s : Step) → IsCallOf c p
      → AreArguments p.takes c.args t → p.gives ≡ bool_kind → p.step rows netid owner t ≡ reported s
      → Reports s c.xid old new out
      → PushesStatus rows netid owner c old new out
  pushes_reported p t new s of are gives is k =
      let moved : new ≡ (p.step rows netid owner t).0 = ap (λ (x : Step). x.0) k.stepped
      ∙ sym (ap (λ (x : List Row × Tree). x.0) is) in
      let result : num4 (number_of k.done) ≡ bytes_of dir_kinds p.gives (p.step rows netid owner t).1 =
      ap (λ (x : Step). num4 (number_of x.1)) k.stepped
      ∙ sym (ap (λ (x : List Row × Tree). bytes_of dir_kinds bool_kind x.1) is)
      ∙ sym (ap (λ (n : ℕ). bytes_of dir_kinds n (p.step rows netid owner t).1) gives) in
      let few : length (bytes_of dir_kinds p.gives (p.step rows netid owner t).1) ≡ 4 = sym (ap length result) in
      pushes_results p t new of are moved (k.added ∙ ap (λ (x : List ℕ). old ++ (accepted_head c.xid 0 ++ x)) result)
      (omega (arith, few))

  -- a reply with an address
  pub pushes_address : (p : Procedure) (t : Tree) (a : List ℕ) → IsCallOf c p → AreArguments p.takes c.args t
      → p.gives ≡ string_kind → p.step rows netid owner t ≡ (rows, content a)
      → out ≡ old ++ (accepted_head c.xid 0 ++ text a) → length a ≤ 256 → PushesStatus rows netid owner c old rows out
  pushes_address p t a of are gives is e few =
      let result : text a ≡ bytes_of dir_kinds p.gives (p.step rows netid owner t).1 =
      sym (append-nil (text a)) ∙ sym (ap (λ (x : List Row × Tree). bytes_of dir_kinds string_kind x.1) is)
      ∙ sym (ap (λ (n : ℕ). bytes_of dir_kinds n (p.step rows netid owner t).1) gives) in
      let long : length (text a) ≡ 4 + length (padded a) = length-append (word (length a)) (padded a) in
      let gap : (4 - length a % 4) % 4 < 4 = mod-lt (4 - length a % 4) (omega arith) in
      let short : length (bytes_of dir_kinds p.gives (p.step rows netid owner t).1) ≤ dump_limits.bytes =
      omega (arith, ap length result, long, length-padded a, gap, few) in
      pushes_results p t rows of are (sym (ap (λ (x : List Row × Tree). x.0) is))
      (e ∙ ap (λ (x : List ℕ). old ++ (accepted_head c.xid 0 ++ x)) result) short

-- ---- what each answer comes to

module _ (rows : List Row) (netid owner : List ℕ) (c : CallView) (old out : List ℕ) where
  pub pushes_null : WholeExactly dir_kinds → IsCallOf c null → out ≡ old ++ accepted_head c.xid 0
      → PushesStatus rows netid owner c old rows out
  pushes_null exact of e = pushes_results rows netid owner c old out null void rows of (no_arguments exact c.args)
      refl e (omega arith)

  pub pushes_garbage : (p : Procedure) → IsCallOf c p → AreGarbage p.takes c.args → out ≡ old ++ accepted_head c.xid 4
      → PushesStatus rows netid owner c old rows out
  pushes_garbage p of none e = puts rows netid owner c old out rows GarbageArgs (garbage p of none) tt e (omega arith)

  pub pushes_no_procedure : c.prog ≡ program → IsVersion c.vers → procedure_at c.vers c.proc ≡ None → out ≡ old
      ++ accepted_head c.xid 3 → PushesStatus rows netid owner c old rows out
  pushes_no_procedure prog vers none e = puts rows netid owner c old out rows ProcUnavail
      (no_procedure prog vers none) tt e (omega arith)

  pub pushes_no_program : (c.prog ≡ program → ⊥) → out ≡ old ++ accepted_head c.xid 1
      → PushesStatus rows netid owner c old rows out
  pushes_no_program prog e = puts rows netid owner c old out rows ProgUnavail (no_program prog) tt e (omega arith)

  pub pushes_no_version : c.prog ≡ program → (c.vers < lowest_version) ⊎ (highest_version < c.vers) → out ≡ old
      ++ reply (accepted c.xid (ProgMismatch 2 4)) → PushesStatus rows netid owner c old rows out
  pushes_no_version prog vers e = puts rows netid owner c old out rows (ProgMismatch 2 4) (no_version prog vers)
      (omega arith, omega arith) e (omega arith)

  pub pushes_dump_2 : WholeExactly dir_kinds → (mid : List ℕ) → IsCallOf c dump_2
      → mid ≡ old ++ accepted_head c.xid 0 → out ≡ mid ++ bytes_of dir_kinds mapping_list_kind (mapping_list rows)
      → length (bytes_of dir_kinds mapping_list_kind (mapping_list rows)) ≤ dump_limits.bytes
      → PushesStatus rows netid owner c old rows out
  pushes_dump_2 exact mid of e f few = pushes_results rows netid owner c old out dump_2 void rows of
      (no_arguments exact c.args) refl
      (then old (accepted_head c.xid 0) (bytes_of dir_kinds mapping_list_kind (mapping_list rows)) mid out e f) few

  pub pushes_dump_3 : WholeExactly dir_kinds → (mid : List ℕ) → IsCallOf c dump_3
      → mid ≡ old ++ accepted_head c.xid 0 → out ≡ mid ++ bytes_of dir_kinds rpcb_list_kind (rpcb_list rows)
      → length (bytes_of dir_kinds rpcb_list_kind (rpcb_list rows)) ≤ dump_limits.bytes
      → PushesStatus rows netid owner c old rows out
  pushes_dump_3 exact mid of e f few = pushes_results rows netid owner c old out dump_3 void rows of
      (no_arguments exact c.args) refl
      (then old (accepted_head c.xid 0) (bytes_of dir_kinds rpcb_list_kind (rpcb_list rows)) mid out e f) few

  module _ (prog vers prot port : ℕ) (are : AreArguments mapping_kind c.args (mapping_of prog vers prot port)) where
    pub pushes_set_2 : (new : List Row) → IsCallOf c set_2
        → Reports (set_port rows prog vers prot port owner) c.xid old new out
        → PushesStatus rows netid owner c old new out
    pushes_set_2 new of k = pushes_reported rows netid owner c old out set_2 (mapping_of prog vers prot port) new
        (set_port rows prog vers prot port owner) of are refl refl k

    pub pushes_unset_2 : (new : List Row) → IsCallOf c unset_2
        → Reports (unset_port rows prog vers owner) c.xid old new out → PushesStatus rows netid owner c old new out
    pushes_unset_2 new of k = pushes_reported rows netid owner c old out unset_2 (mapping_of prog vers prot port) new
        (unset_port rows prog vers owner) of are refl refl k

    pub pushes_getport_2 : IsCallOf c getport_2
        → out ≡ old ++ (accepted_head c.xid 0 ++ word (get_port rows prog vers prot))
        → PushesStatus rows netid owner c old rows out
    pushes_getport_2 of e = pushes_results rows netid owner c old out getport_2
        (mapping_of prog vers prot port) rows of are refl e (omega arith)

  module _ (prog vers : ℕ) (id address someone : List ℕ) (are : AreArguments rpcb_kind c.args
      (rpcb_tree (row_of prog vers id address someone))) where
    pub pushes_set_3 : (new : List Row) → IsCallOf c set_3
        → Reports (set rows (row_of prog vers id address owner)) c.xid old new out
        → PushesStatus rows netid owner c old new out
    pushes_set_3 new of k = pushes_reported rows netid owner c old out set_3
        (rpcb_tree (row_of prog vers id address someone)) new
        (set rows (row_of prog vers id address owner)) of are refl refl k

    pub pushes_unset_3 : (new : List Row) → IsCallOf c unset_3
        → Reports (unset rows prog vers id owner) c.xid old new out → PushesStatus rows netid owner c old new out
    pushes_unset_3 new of k = pushes_reported rows netid owner c old out unset_3
        (rpcb_tree (row_of prog vers id address someone)) new (unset rows prog vers id owner) of are refl refl k

    pub pushes_getaddr_3 : IsCallOf c getaddr_3
        → out ≡ old ++ (accepted_head c.xid 0 ++ text (getaddr rows prog vers netid))
        → length (getaddr rows prog vers netid) ≤ 256 → PushesStatus rows netid owner c old rows out
    pushes_getaddr_3 of e few = pushes_address rows netid owner c old out getaddr_3
        (rpcb_tree (row_of prog vers id address someone)) (getaddr rows prog vers netid) of are refl refl e few

    pub pushes_getversaddr_4 : IsCallOf c getversaddr_4
        → out ≡ old ++ (accepted_head c.xid 0 ++ text (getversaddr rows prog vers netid))
        → length (getversaddr rows prog vers netid) ≤ 256 → PushesStatus rows netid owner c old rows out
    pushes_getversaddr_4 of e few = pushes_address rows netid owner c old out getversaddr_4
        (rpcb_tree (row_of prog vers id address someone)) (getversaddr rows prog vers netid) of are refl refl e few
