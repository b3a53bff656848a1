use Rattle.std.proofs.Common.{◌≡◌, ◌≤◌, ℕ, Option, arith, option_map}
use Rattle.std.proofs.lemmas.Result.{err_from_is_err_and}
use Rattle.lsdb.specs.Lists.{AreaHead, limit_of}
use Rattle.lsdb.specs.Slots.{full}
use Rattle.lsdb.specs.steps.View.{head_of}
use Rattle.lsdb.specs.steps.Reading.{at_of}
use Rattle.lsdb.proofs.Fronts.{section_started}
use Rattle.lsdb.proofs.load.read_section.Goals as goal

few : (count limit : ℕ) (area : Option AreaHead) → limit ≡ limit_of area → count ≤ limit → count ≤ limit_of area
few count limit area is le = omega (arith, is, le)

pub returns-in_err-slots-2-clause-memory : goal.returns-in_err-slots-2-clause-memory
returns-in_err-slots-2-clause-memory g c =
    let p = err_from_is_err_and c.from_residual-in_err-slots-2.result c.from_residual-in_err-slots-2.ensures.1 in
    let area = option_map head_of c.args.area in
    rw (p.1, p.2)
    (section_started area (at_of c.args.at) (at_of c.in_ok-count.rest) c.in_ok-count.count
    (full c.in_ok-slots.slots.items, at_of c.in_ok-slots.rest) c.in_ok-count.ensures
    (few c.in_ok-count.count c.limit_of.result area c.limit_of.ensures c.if-limit_of-count.false) c.in_ok-slots.ensures.lsas)
