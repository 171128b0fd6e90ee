use Rattle.example_language.proofs.texts.older_text.Goals as goal

pub returns : goal.returns
returns c = λ d m.
    (c.older_texts_keep_their_meanings.ensures.meanings c.args.text.now d c.requires).0 m
