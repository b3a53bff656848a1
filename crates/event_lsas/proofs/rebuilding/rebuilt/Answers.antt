use Rattle.std.proofs.Common.{◌≡◌, ℕ, Bool, false, List, Option, Some, None, sym, ap, ◌∙◌}
use Rattle.std.specs.Prelude.{◌==◌}
use Rattle.std.proofs.lemmas.Bool.{cond-false, ne_eqb}
use Rattle.lsdb.specs.Slots.{Slot}
use Rattle.lsa_remaking.specs.Relinking.{count_left, relinked}
use Rattle.event_lsas.proofs.Keeping.{kept_for}
use Rattle.event_lsas.proofs.RouterLinks.{long}
use Rattle.event_lsas.proofs.rebuilding.rebuilt.Goals as goal

pub relink-requires-clause-header : goal.relink-requires-clause-header
relink-requires-clause-header g c = long c.args.lsa.now c.requires.accepted c.requires.router

pub returns-in-Ok-clause-made : goal.returns-in-Ok-clause-made
returns-in-Ok-clause-made g c =
    let links = c.args.links.now in
    let left : (count_left links == 0) ≡ false = ap (λ (n : ℕ). n == 0) (sym c.count_left.ensures) ∙ ne_eqb _ _ c.if-count_left-eq0.false in
    let new : Slot = Some (relinked links c.args.lsa.now) in
    ap (λ (lsa : List ℕ). let s : Slot = Some lsa in s) c.in-Ok.ensures.made ∙ sym (cond-false (count_left links == 0) None new left)

pub returns-in-Err-clause-kept : goal.returns-in-Err-clause-kept
returns-in-Err-clause-kept g c =
    let links = c.args.links.now in
    let left : (count_left links == 0) ≡ false = ap (λ (n : ℕ). n == 0) (sym c.count_left.ensures) ∙ ne_eqb _ _ c.if-count_left-eq0.false in
    kept_for links c.args.lsa.now c.in-Err.fault c.requires.accepted c.requires.router left c.in-Err.ensures.fault
