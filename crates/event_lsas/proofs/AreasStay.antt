-- The areas of a database after an event, and the LSAs of other routers.
use Rattle.std.proofs.Common.{◌≡◌, ℕ, false, List, [], ◌∷◌, Option, Some, Result, Ok, Err, refl, ap, ◌∙◌}
use Rattle.std.proofs.lemmas.Bool.{cond-false}
use Rattle.lsa_codec.specs.Key.{router_key}
use Rattle.lsdb.specs.Lists.{AreaHead, Lists, has_key, heads_of}
use Rattle.lsa_remaking.specs.declared.link_change.LinkChange.{LinkChange}
use Rattle.event_links.specs.declared.fault.EventFault.{EventFault}
use Rattle.event_links.specs.declared.selection.LinkEdit.{LinkEdit}
use Rattle.event_lsas.specs.LinkEvents.{carried, outcome_of}
use Rattle.event_links.specs.Selections.{ChosenData, chosen_of}
use Rattle.event_lsas.specs.Outcomes.{Outcome, kept, relinked_where, where_chosen, after}

heads_after : (outcome : Outcome) (db : Lists) → heads_of (after outcome db) ≡ heads_of db
heads_after outcome [] = refl
heads_after outcome (s ∷ db) = ap (λ (heads : List (Option AreaHead)). s.area ∷ heads) (heads_after outcome db)

pub heads_carried : (db : Lists) (r : Result LinkEdit EventFault) (new : Lists) → carried db r ≡ Ok new → heads_of new ≡ heads_of db
heads_carried db (Ok e) new h =
    let is : new ≡ after (outcome_of db e) db = cc in
    ap heads_of is ∙ heads_after (outcome_of db e) db
heads_carried db (Err fault) new h = absurd cc

pub other_kept : (change : LinkChange) (chosen : ChosenData) (lsa : List ℕ) → has_key (router_key chosen.router) lsa ≡ false
    → has_key (router_key chosen.neighbor) lsa ≡ false → where_chosen change chosen lsa ≡ kept
other_kept change chosen lsa one other =
    let none : chosen_of chosen lsa ≡ [] = cond-false _ _ _ one ∙ cond-false _ _ _ other in
    ap (λ links. relinked_where change links lsa) none
