use Rattle.std.proofs.Common.{◌≡◌, ◌∷◌, List, drop, rules, subst, sym}
use Rattle.std.proofs.lemmas.Option.{IfSome_then}
use Rattle.edit_history.specs.declared.moved.Moved.{Moved}
use Rattle.edit_history.specs.declared.moved.Moved.TheVariants.{Back, On}
use Rattle.edit_history.specs.Exchange.{RecordData}
use Rattle.edit_history.specs.Moving.{IsOneChange}
use Rattle.edit_history.proofs.Cursor.{first_is, last_is}
use Rattle.edit_history.proofs.HeldChanges.{last_changed, next_changed}
use Rattle.edit_history.proofs.history.History.one_change.Goals as goal

pub returns-in_ok-last-in-On-eq1 : goal.returns-in_ok-last-in-On-eq1
returns-in_ok-last-in-On-eq1 g c =
    let past : List RecordData = c.args.self.now.lists.past in
    let last : RecordData = c.in_ok-last-in-On-eq1.field-0.now in
    let first : past ≡ last ∷ drop 1 past = last_is c.done_records.result.now past last c.done_records.ensures c.in_ok-last-in-On-eq1.ensures.value in
    let same : c.args.moved ≡ On 1 = search rules in
    IfSome_then c.held_change.result c.held_change.ensures
    (λ change one. λ d links. subst (λ (m : Moved). IsOneChange m d c.args.self.now.lists change.slot change.before.now) (sym same)
    (last_changed d c.args.self.now.lists last change.slot change.before.now first one links))

pub returns-in_ok-first-in-Back-eq1 : goal.returns-in_ok-first-in-Back-eq1
returns-in_ok-first-in-Back-eq1 g c =
    let future : List RecordData = c.args.self.now.lists.future in
    let next : RecordData = c.in_ok-first-in-Back-eq1.field-0.now in
    let first : future ≡ next ∷ drop 1 future = first_is c.undone_records.result.now future next
    c.undone_records.ensures c.in_ok-first-in-Back-eq1.ensures.value in
    let same : c.args.moved ≡ Back 1 = search rules in
    IfSome_then c.held_change-in-Back-eq1.result c.held_change-in-Back-eq1.ensures
    (λ change one. λ d links. subst (λ (m : Moved). IsOneChange m d c.args.self.now.lists change.slot change.before.now) (sym same)
    (next_changed d c.args.self.now.lists next change.slot change.before.now first one links))
