use Rattle.std.proofs.Common.{◌≡◌, Bool, true, sym, subst}
use Rattle.std.specs.Bool.{OnTrue}
use Rattle.lsdb.specs.Lists.{AreaHead}
use Rattle.unchanged_tables.proofs.OneLsa.{elsewhere_unchanged, steady_unchanged}
use Rattle.unchanged_tables.proofs.deciding.is_unchanged.Goals as goal

-- what a test shows where it passes
reported : (b : Bool) {P : Type 0} → OnTrue b P → b ≡ true → P
reported b {P} announces passes = subst (λ (t : Bool). OnTrue t P) passes announces

pub returns-then-not-is_attached : goal.returns-then-not-is_attached
returns-then-not-is_attached g c = λ holds.
    let head : AreaHead = record { id = c.area-is_stub.result.0.0; is_stub = c.area-is_stub.result.1 } in
    elsewhere_unchanged c.args.database.now c.args.slot c.args.router c.args.before.now c.in-Some.after.now head c.assert_valid.ensures c.requires.sound
    c.in-Some.ensures c.area-is_stub.ensures (sym c.if-not-is_attached.ensures) (reported _ c.are_foreign.ensures holds)

pub returns : goal.returns
returns g c = λ holds.
    let head : AreaHead = record { id = c.area-is_stub.result.0.0; is_stub = c.area-is_stub.result.1 } in
    steady_unchanged c.args.database.now c.args.slot c.args.router c.args.before.now c.in-Some.after.now head c.assert_valid.ensures c.requires.sound
    c.in-Some.ensures c.area-is_stub.ensures c.args.trees.now c.in-Some-in_area.kept.now c.in-Some-of.distances c.requires.trees
    c.in-Some-in_area.ensures c.in-Some-of.ensures (reported _ c.is_steady_lsa.ensures holds)
