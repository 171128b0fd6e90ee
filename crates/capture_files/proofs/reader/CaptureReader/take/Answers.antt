use Rattle.std.proofs.Common.{◌≡◌, ◌+◌, ◌-◌, ◌++◌, ◌<◌, ◌≤◌, ℕ, length, take, sym, subst, arith, rules}
use Rattle.std.proofs.lemmas.List.{length-take-le}
use Rattle.capture_files.specs.declared.place.Place.{Place}
use Rattle.capture_files.specs.declared.place.Place.TheVariants.{Passing}
use Rattle.capture_files.specs.Represents.{waits_at, RepresentsAt}
use Rattle.capture_files.specs.Runs.{capped}
use Rattle.capture_files.proofs.Passed.{passed}
use Rattle.capture_files.proofs.Represented.{made}
use Rattle.capture_files.proofs.reader.CaptureReader.take.Goals as goal

pub returns-else-left-eq0-clause-takes : goal.returns-else-left-eq0-clause-takes
returns-else-left-eq0-clause-takes c = λ bytes ps h.
    let self = c.args.self.now in
    let unit = self.unit.items in
    let rest = c.args.rest.now in
    let count = c.min-count.result in
    let order = c.in-Passing.order in
    let interface = c.in-Passing.interface in
    let left = c.in-Passing.left in
    let total = c.in-Passing.total in
    let interfaces = self.interfaces.items in
    let within : count ≤ length rest = first_of (omega arith, omega (arith, c.min-count.ensures)) in
    let few : count ≤ left = first_of (omega arith, omega (arith, c.min-count.ensures)) in
    let some : 0 < count = first_of (omega arith, omega (arith, c.min-count.ensures, c.requires.some)) in
    let at : c.saturating_add-self.result ≡ capped (self.at + count) =
    first_of (search rules, omega (arith, c.saturating_add-self.ensures)) in
    let before = λ (x : Place). RepresentsAt self.progress self.need self.at unit (made x interfaces) bytes ps in
    let behind = λ (x : ℕ). RepresentsAt self.progress self.need x unit
    (made (Passing order interface (left - count) total) interfaces) (bytes ++ take count rest)
    (ps ++ waits_at self.progress unit) in
    subst behind (sym at)
    (passed self.progress self.need self.at unit order interface left total count interfaces (take count rest) bytes ps
    c.requires.open (length-take-le count rest within) some few (subst before c.in-Passing.is h))
