-- What is made of a text that is put together of others.
use Rattle.std.proofs.Common.{◌≡◌, ℕ, ◌-◌, Bool, true, false, List, [], ◌++◌, length, Option, None, Some, refl, ap}
use Rattle.std.proofs.Common.{◌∙◌, subst}
use Rattle.std.specs.Prelude.{option_map}
use Rattle.rpc_message.specs.Message.{CallView, ReplyView}
use Rattle.rpc_message.specs.Spelling.{CallBytes, ReplyBytes}
use Rattle.xdr_lang.specs.Declarations.{Procedure}
use Rattle.oncrpc_messages.specs.declared.asked.Asked.{Asked}
use Rattle.oncrpc_messages.specs.declared.form.Form.{Form}
use Rattle.oncrpc_messages.specs.declared.refusal.Refusal.{Refusal}
use Rattle.oncrpc_messages.specs.declared.refusal.Verdict.{Verdict}
use Rattle.oncrpc_messages.specs.declared.show.Show.{Show}
use Rattle.oncrpc_messages.specs.declared.show.Show.TheVariants as show
use Rattle.oncrpc_messages.specs.Asked.{declared_in, name_in}
use Rattle.oncrpc_messages.specs.Bodies.{TellsFields, body_text, values_text}
use Rattle.oncrpc_messages.specs.Lines.{call_front, cred_text, reply_front}
use Rattle.oncrpc_messages.specs.Messages.{TellsArgumentsOf, TellsCall, TellsEnding, TellsReply, declared_of_call}
use Rattle.oncrpc_messages.specs.Messages.{results_of_call}
use Rattle.oncrpc_messages.specs.Private.Kept.{IsKept, IsKeptPart, kept, values_show}
use Rattle.oncrpc_messages.specs.Settings.{Settings}

-- nothing is made of nothing
pub kept_none : (s : Show) → [] ≡ kept s []
kept_none show.Text = refl
kept_none show.Nothing = refl

-- of two texts, one behind the other
pub kept_join : (s : Show) (a b : List ℕ) → kept s a ++ kept s b ≡ kept s (a ++ b)
kept_join show.Text a b = refl
kept_join show.Nothing a b = refl

-- of a text around another
pub kept_with : (s : Show) (around : List ℕ → List ℕ) (made text : List ℕ) → made ≡ kept s text
    → kept s (around made) ≡ kept s (around text)
kept_with show.Text around made text is = ap around is
kept_with show.Nothing around made text is = refl

-- of the text of values, of which nothing is made where messages are printed in brief
pub kept_body : (brief : Bool) (s : Show) (f : Form) (call : Bool) (made text : List ℕ)
    → made ≡ kept (values_show brief s) text
    → kept s (body_text brief f call made) ≡ kept s (body_text brief f call text)
kept_body true s f call made text is = refl
kept_body false s f call made text is = kept_with s (λ (x : List ℕ). values_text f call x) made text is

same_part : (part : Option (List ℕ)) → option_map (λ (t : List ℕ). t) part ≡ part
same_part None = refl
same_part (Some t) = refl

-- of a text around one that need not be there
pub kept_part : (s : Show) (around : Option (List ℕ) → List ℕ) (made part : Option (List ℕ))
    → made ≡ option_map (λ (t : List ℕ). kept s t) part → kept s (around made) ≡ kept s (around part)
kept_part show.Text around made part is = ap around (is ∙ same_part part)
kept_part show.Nothing around made part is = refl

-- a call, out of the text of its credential and of what stands behind that
pub call_kept : (w : Show) (s : Settings) (bytes : List ℕ) (c : CallView) (p : Option Procedure) (start : ℕ)
    (name fields : Option (List ℕ)) (refused : Option Refusal) (behind made : List ℕ) (v : Verdict) → CallBytes c bytes
    → p ≡ declared_in s.declared c.prog c.vers c.proc → start ≡ length bytes - length c.args → name ≡ name_in p
    → IsKeptPart w (λ (x : Option (List ℕ)). TellsFields s 32 c.cred x refused) fields
    → IsKept w (λ (x : List ℕ). TellsArgumentsOf s start c p refused x v) behind
    → made ≡ kept w (call_front s.form c name ++ (cred_text s.form c.cred.flavor fields ++ behind))
    → IsKept w (λ (x : List ℕ). TellsCall s bytes c x v) made
call_kept w s bytes c p start name fields refused behind made v spelled p_is start_is name_is f b is =
    let own = name_in (declared_in s.declared c.prog c.vers c.proc) in
    let named : name ≡ own = name_is ∙ ap (λ (x : Option Procedure). name_in x) p_is in
    let front = call_front s.form c own in
    let placed = subst (λ (n : ℕ). TellsArgumentsOf s n c p refused b.0 v) start_is b.1 in (
      front ++ (cred_text s.form c.cred.flavor f.0 ++ b.0),
      record {
        fields = f.0;
        refused = refused;
        arguments = b.0;
        spelled = spelled;
        cred = f.1;
        args = subst (λ (x : Option Procedure). TellsArgumentsOf s (length bytes - length c.args) c x refused b.0 v)
            p_is placed;
        text_is = refl;
      },
      is
          ∙ ap (λ (x : Option (List ℕ)). kept w (call_front s.form c x
          ++ (cred_text s.form c.cred.flavor fields ++ behind))) named
          ∙ kept_part w (λ (x : Option (List ℕ)). front ++ (cred_text s.form c.cred.flavor x ++ behind)) fields f.0 f.2
          ∙ kept_with w (λ (x : List ℕ). front ++ (cred_text s.form c.cred.flavor f.0 ++ x)) behind b.0 b.2,
    )

-- a reply, out of what stands behind its front
pub reply_kept : (w : Show) (s : Settings) (asked : Option Asked) (bytes : List ℕ) (r : ReplyView)
    (p : Option Procedure) (places : Option (List ℕ)) (size : ℕ) (name : Option (List ℕ)) (behind made : List ℕ)
    (v : Verdict) → ReplyBytes r bytes → p ≡ declared_of_call s asked → places ≡ results_of_call s asked
    → size ≡ length bytes → name ≡ name_in p
    → IsKept w (λ (x : List ℕ). TellsEnding s places size r x v) behind
    → made ≡ kept w (reply_front s.form r asked name ++ behind)
    → IsKept w (λ (x : List ℕ). TellsReply s asked bytes r x v) made
reply_kept w s asked bytes r p places size name behind made v spelled p_is places_is size_is name_is b is =
    let own = name_in (declared_of_call s asked) in
    let named : name ≡ own = name_is ∙ ap (λ (x : Option Procedure). name_in x) p_is in
    let sized = subst (λ (n : ℕ). TellsEnding s places n r b.0 v) size_is b.1 in (
      reply_front s.form r asked own ++ b.0,
      record {
        ending = b.0;
        spelled = spelled;
        results = subst (λ (x : Option (List ℕ)). TellsEnding s x (length bytes) r b.0 v) places_is sized;
        text_is = refl;
      },
      is
          ∙ ap (λ (x : Option (List ℕ)). kept w (reply_front s.form r asked x ++ behind)) named
          ∙ kept_with w (λ (x : List ℕ). reply_front s.form r asked own ++ x) behind b.0 b.2,
    )
