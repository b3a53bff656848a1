use Rattle.std.proofs.Common.{◌≡◌, ◌<◌, ◌∙◌, ℕ, None, Some, List, length, get_or, set, sym, ap, subst}
use Rattle.std.proofs.lemmas.List.{get_or_default, length-set}
use Rattle.next_hops.specs.declared.hop.Hop.{Hop}
use Rattle.next_hops.specs.Hop.{IsSortedHops}
use Rattle.next_hops.specs.steps.Shared.{Keeps, list_in}
use Rattle.next_hops.proofs.Keeping.{IsSortedHops-list_in}
use Rattle.next_hops.proofs.Renumbering.{AreSame, AreSame-put, list_in-put}
use Rattle.next_hops.proofs.Sharing.{Keeps-put}
use Rattle.next_hops.proofs.renumbered.Renumbered.number_of.Goals as goal

pub returns-in-Some-clause-within : goal.returns-in-Some-clause-within
returns-in-Some-clause-within g c =
    let places = c.args.self.now.places.items in
    let within : c.args.number < length places = subst (λ (n : ℕ). c.args.number < n) (sym c.requires.renumbered.sized) c.requires.number in
    let at : get_or places c.args.number None ≡ Some c.in-Some.place =
    get_or_default places c.args.number None c.index.result.now within ∙ sym c.index.ensures ∙ c.in-Some.is in
    (c.requires.renumbered.same c.args.number c.in-Some.place at).0

pub returns-in-Some-clause-list : goal.returns-in-Some-clause-list
returns-in-Some-clause-list g c =
    let places = c.args.self.now.places.items in
    let within : c.args.number < length places = subst (λ (n : ℕ). c.args.number < n) (sym c.requires.renumbered.sized) c.requires.number in
    let at : get_or places c.args.number None ≡ Some c.in-Some.place =
    get_or_default places c.args.number None c.index.result.now within ∙ sym c.index.ensures ∙ c.in-Some.is in
    (c.requires.renumbered.same c.args.number c.in-Some.place at).1

pub returns-clause-list : goal.returns-clause-list
returns-clause-list g c =
    let kept = c.args.self.now.lists.items in
    let list = c.in_ok-from_slice.field-0 in
    ap (λ n. list_in c.push.new.self.items n) (c.len-place.ensures ∙ c.args.self.now.lists.ok.0)
    ∙ ap (λ xs. list_in xs (length kept)) c.in_ok-push.ensures.items
    ∙ list_in-put kept list ∙ c.in_ok-from_slice.ensures.items ∙ c.list_at.ensures

pub returns-clause-keeps : goal.returns-clause-keeps
returns-clause-keeps g c =
    let kept = c.args.self.now.lists.items in
    let list = c.in_ok-from_slice.field-0 in
    let lists = c.args.lists.now.keys in
    let items = c.in_ok-from_slice.ensures.items ∙ c.list_at.ensures in
    subst (λ new. Keeps kept new) (sym c.in_ok-push.ensures.items)
    (Keeps-put kept list (subst (λ (hops : List Hop). IsSortedHops hops) (sym items) (IsSortedHops-list_in lists c.requires.sorted c.args.number c.requires.number)))

pub returns-clause-renumbered : goal.returns-clause-renumbered
returns-clause-renumbered g c =
    let kept = c.args.self.now.lists.items in
    let lists = c.args.lists.now.keys in
    let places = c.args.self.now.places.items in
    let within : c.args.number < length places = subst (λ (n : ℕ). c.args.number < n) (sym c.requires.renumbered.sized) c.requires.number in
    record {
      sized = length-set places c.args.number (Some c.len-place.result) ∙ c.requires.renumbered.sized;
      same = subst (λ (n : ℕ). AreSame lists c.push.new.self.items (set places c.args.number (Some n))) (sym (c.len-place.ensures ∙ c.args.self.now.lists.ok.0))
          (AreSame-put lists kept c.push.new.self.items places c.args.number c.in_ok-from_slice.field-0 within c.in_ok-push.ensures.items
          (c.in_ok-from_slice.ensures.items ∙ c.list_at.ensures) (returns-clause-keeps g c) c.requires.renumbered.same);
    }
