use Rattle.std.proofs.Common.{List, sym, subst, ◌∙◌}
use Rattle.xdr_tokens.specs.Tokens.{Lexeme}
use Rattle.xdr_grammar.specs.Spelled.{IsOutline}
use Rattle.xdr_lang.proofs.Older.{long_was_a_name, same_tokens, same_meaning, same_names}
use Rattle.xdr_lang.proofs.laws.older_texts_keep_their_meanings.Goals as goal

pub returns-clause-words : goal.returns-clause-words
returns-clause-words c = long_was_a_name

pub returns-clause-meanings : goal.returns-clause-meanings
returns-clause-meanings c = λ text d no_long. (
  λ m.
      record {
        short = m.short;
        tokens = m.tokens;
        cut = m.cut;
        outline = m.outline;
        spelled = subst (λ (ts : List Lexeme). IsOutline ts m.outline) (same_tokens m.tokens (no_long m.tokens m.cut))
            m.spelled;
        meant = record {
          distinct = sym (same_names m.outline) ∙ m.meant.distinct;
          meant = sym (same_meaning m.outline m.none) ∙ m.meant.meant;
          well_formed = m.meant.well_formed;
          sound = m.meant.sound;
        };
      },
  λ no_struct m.
      record {
        short = m.short;
        tokens = m.tokens;
        cut = m.cut;
        outline = m.outline;
        spelled = subst (λ (ts : List Lexeme). IsOutline ts m.outline)
            (sym (same_tokens m.tokens (no_long m.tokens m.cut))) m.spelled;
        none = no_struct m.tokens m.outline m.cut m.spelled;
        meant = record {
          distinct = same_names m.outline ∙ m.meant.distinct;
          meant = same_meaning m.outline (no_struct m.tokens m.outline m.cut m.spelled) ∙ m.meant.meant;
          well_formed = m.meant.well_formed;
          sound = m.meant.sound;
        };
      },
)
