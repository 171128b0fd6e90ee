-- Each device, without what was read before it failed.
use Rattle.example_program.proofs.Devices.{which_device}
use Rattle.example_program.proofs.values.a_device_is_3.Goals as goal

pub returns : goal.returns
returns g c = λ three. which_device (c.check_over.ensures.device three)
