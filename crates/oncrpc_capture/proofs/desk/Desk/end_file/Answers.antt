use Rattle.oncrpc_capture.proofs.Printed.{on_ok}
use Rattle.oncrpc_capture.proofs.Fed.{ends_cut, ends_whole}
use Rattle.oncrpc_capture.proofs.desk.Desk.end_file.Goals as goal

pub returns-in-Ok : goal.returns-in-Ok
returns-in-Ok g c = on_ok _
    (λ h. ends_whole _ _ _ _ _ _ _ c.end.new.self _ _ c.in-Ok.ensures.ends h) c.end-in-Ok.ensures.goes

pub returns-in_ok-refuse_file-in-Err : goal.returns-in_ok-refuse_file-in-Err
returns-in_ok-refuse_file-in-Err g c = on_ok _
    (λ h. ends_cut _ _ _ _ _ _ _ _ _ c.end.new.self _ _ _ c.in-Err.fault c.in-Err.ensures.ends.0
    c.in-Err.ensures.ends.1 c.in_ok-refuse_file-in-Err.ensures.reason c.in_ok-refuse_file-in-Err.ensures.told
    c.refuse_file.ensures.flows h) c.end-in-Err.ensures.goes
