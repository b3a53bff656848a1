use Rattle.std.proofs.Common.{◌≡◌, ℕ, cond, length, Option, Some, refl, sym, ap, ◌∙◌}
use Rattle.std.specs.BTreeMap.{get}
use Rattle.std.specs.Ordering.{eq_by_cmp}
use Rattle.std.proofs.lemmas.Option.{slice_get_read}
use Rattle.lsa_codec.specs.declared.address.RouterId.{RouterId}
use Rattle.lsa_codec.specs.Order.{router_cmp}
use Rattle.area_routes.specs.Values.{EntryValue}
use Rattle.external_routes.specs.Choose.{is_asbr}
use Rattle.external_routes.specs.steps.Lookup.{comes_first, entry_at}
use Rattle.external_routes.proofs.AsbrMaps.{left_is, left_late, taken}
use Rattle.external_routes.proofs.asbr_map.insert_entry.Goals as goal
use Rattle.external_routes.proofs.asbr_map.insert_entry.Goals.{else-is_asbr-via-then-is_asbr+else-comes_first, else-is_asbr-via-else-is_asbr}

pub returns-in_ok-insert : goal.returns-in_ok-insert
returns-in_ok-insert g c = λ before.
    let entries = c.args.entries.now in
    let x : EntryValue = c.index-entries-index.result in
    let old : RouterId → Option ℕ = λ asbr. get router_cmp c.args.asbrs.now asbr in
    let router : c.entry.inside.router ≡ x.router = ap (λ (e : EntryValue). e.router) c.entry.view_is in
    taken entries c.args.index x (slice_get_read entries (length entries) c.args.index x refl c.requires c.index-entries-index.is) old before
    (ap (λ (r : RouterId). is_asbr r x) (sym router) ∙ sym c.is_asbr.ensures ∙ c.if-is_asbr.true)
    (ap (λ (r : RouterId). comes_first x (entry_at entries (old r))) (sym router)
    ∙ ap (λ (o : Option EntryValue). comes_first x o) (sym c.entry_for.ensures) ∙ sym c.comes_first.ensures ∙ c.if-comes_first.true)
    (λ asbr. get router_cmp c.insert.new.self asbr)
    (λ asbr. c.in_ok-insert.ensures.updates.0 asbr ∙ ap (λ (r : RouterId). cond (eq_by_cmp router_cmp r asbr) (Some c.args.index) (old asbr)) router)

pub returns-else-is_asbr : goal.returns-else-is_asbr
returns-else-is_asbr g c = λ before.
    let entries = c.args.entries.now in
    let x : EntryValue = c.index-entries-index.result in
    let old : RouterId → Option ℕ = λ asbr. get router_cmp c.args.asbrs.now asbr in
    let router : c.entry.inside.router ≡ x.router = ap (λ (e : EntryValue). e.router) c.entry.view_is in
    let here = slice_get_read entries (length entries) c.args.index x refl c.requires c.index-entries-index.is in
    elim c.else-is_asbr.branch [
      | else-is_asbr-via-then-is_asbr+else-comes_first w ↦
          left_late entries c.args.index x here old before
          (ap (λ (r : RouterId). is_asbr r x) (sym router) ∙ sym c.is_asbr.ensures ∙ w.if-is_asbr.true)
          (ap (λ (r : RouterId). comes_first x (entry_at entries (old r))) (sym router)
          ∙ ap (λ (o : Option EntryValue). comes_first x o) (sym w.entry_for.ensures) ∙ sym w.comes_first.ensures ∙ w.if-comes_first.false)
      | else-is_asbr-via-else-is_asbr w ↦ left_is entries c.args.index x here old before
          (ap (λ (r : RouterId). is_asbr r x) (sym router) ∙ sym c.is_asbr.ensures ∙ w.if-is_asbr.false)
    ]
