use Rattle.example_watch.proofs.files.stays_refused.Goals as goal

pub unreachable-requires : goal.unreachable-requires
unreachable-requires c =
    let again = c.in-Ok-feed.ensures.refused.again c.in-Err.fault c.in-Err.ensures.ends.0 in
    absurd cc

pub returns-in-Err-feed : goal.returns-in-Err-feed
returns-in-Err-feed c =
    let again = c.in-Err-feed.ensures.refused.again c.in-Err.fault c.in-Err.ensures.ends.0 in
    cc
