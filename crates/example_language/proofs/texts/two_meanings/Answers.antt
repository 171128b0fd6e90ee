use Rattle.example_language.proofs.texts.two_meanings.Goals as goal

pub returns : goal.returns
returns c = λ d e m n. c.one_meaning.ensures c.args.text.now d e m n
