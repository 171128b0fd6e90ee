-- What the texts of the examples are without their lines of % and #, computed once each.
use Rattle.std.proofs.Common.{◌≡◌, [], ◌∷◌, Ok, Err, codes, refl}
use Rattle.xdr_tokens.specs.Bytes.{run_length}
use Rattle.xdr_tokens.specs.declared.fault.Fault.TheVariants as fault
use Rattle.xdr_tokens.specs.declared.fault.Wrong.TheVariants as wrong
use Rattle.xdr_dialect.specs.Blanks.{after_blanks_from, closes_from}
use Rattle.xdr_dialect.specs.Plain.{plain, plain_from}

pub record Texts : Type 0 where
  pub percent_line : plain [] (codes "%x{}\nint") ≡ Ok (codes "    \nint")
  pub percent_behind_blanks : plain [] (codes " %x\nint") ≡ Ok (codes "   \nint")
  pub percent_inside_a_line : plain [] (codes "int %x") ≡ Ok (codes "int %x")
  pub percent_in_a_comment : plain [] (codes "/*\n%*/int") ≡ Ok (codes "/*\n%*/int")
  pub line_that_goes_on : plain [] (codes "%\\\nx\ny") ≡ Ok (codes "  \n \ny")
  pub defined_name :
      plain (codes "A" ∷ []) (codes "#ifdef A\nx\n#else\ny\n#endif") ≡ Ok (codes "        \nx\n     \n \n      ")
  pub undefined_name :
      plain (codes "B" ∷ []) (codes "#ifdef A\nx\n#else\ny\n#endif") ≡ Ok (codes "        \n \n     \ny\n      ")
  pub section_in_a_hidden_branch :
      plain [] (codes "#if 0\n#if 1\nx\n#endif\n#endif\ny") ≡ Ok (codes "     \n     \n \n      \n      \ny")
  pub quotes : plain [] (codes "A=\"b\";") ≡ Ok (codes "A== =;")
  pub number_by_define : plain [] (codes "#define A 5\n") ≡ Ok (codes "=define A 5\n")
  pub else_without_if : plain [] (codes "int\n#else") ≡ Err (fault.Refused wrong.BadCharacter 5)
  pub condition_that_is_not_read :
      plain (codes "A" ∷ []) (codes "#if A > 1\n#endif") ≡ Err (fault.Refused wrong.BadCharacter 16)
  pub condition_of_a_quotient : plain [] (codes "#if 1/2\n#endif") ≡ Err (fault.Refused wrong.BadCharacter 14)
  pub otherwise_if :
      plain [] (codes "#if 0\n#elif 1\ny\n#else\n#endif") ≡ Ok (codes "     \n       \ny\n     \n      ")
  pub otherwise_if_behind_a_branch :
      plain [] (codes "#if 1\nx\n#elif A > 1\ny\n#endif") ≡ Ok (codes "     \nx\n           \n \n      ")
  pub condition_behind_define :
      plain [] (codes "#define A\n#ifdef A\nx\n#endif") ≡ Ok (codes "         \n        \nx\n      ")
  pub value_behind_define :
      plain [] (codes "#define A 0\n#if A\n#endif") ≡ Err (fault.Refused wrong.BadCharacter 12)
  pub definition_of_a_name : plain [] (codes "#define A B") ≡ Err (fault.Refused wrong.BadCharacter 11)
  pub section_that_is_open : plain [] (codes "#ifdef A\n") ≡ Err (fault.Refused wrong.Unexpected 0)
  pub comment_in_a_line :
      plain [] (codes "#if/*a*/1/*b\n#else*/\nx\n#endif") ≡ Ok (codes "            \n       \nx\n      ")
  pub words_behind_a_comment : plain [] (codes "#if 0 /* a */ || 1\n#endif") ≡ Err (fault.Refused wrong.BadCharacter 25)
  pub comment_that_does_not_end : plain [] (codes "#if 1\n#endif /* a\n") ≡ Err (fault.Refused wrong.BadCharacter 12)

-- so it is: each text is read by computing
pub texts : Texts
unfolding plain_from after_blanks_from closes_from run_length
texts = record {
  percent_line = refl;
  percent_behind_blanks = refl;
  percent_inside_a_line = refl;
  percent_in_a_comment = refl;
  line_that_goes_on = refl;
  defined_name = refl;
  undefined_name = refl;
  section_in_a_hidden_branch = refl;
  quotes = refl;
  number_by_define = refl;
  else_without_if = refl;
  condition_that_is_not_read = refl;
  condition_of_a_quotient = refl;
  otherwise_if = refl;
  otherwise_if_behind_a_branch = refl;
  condition_behind_define = refl;
  value_behind_define = refl;
  definition_of_a_name = refl;
  section_that_is_open = refl;
  comment_in_a_line = refl;
  words_behind_a_comment = refl;
  comment_that_does_not_end = refl;
}
