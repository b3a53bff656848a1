use Rattle.std.proofs.Common.{◌≡◌, ◌∙◌, ◌-◌, ℕ, take, vec_len, ap, arith}
use Rattle.std.proofs.lemmas.Result.{on_ok_weaker}
use Rattle.audit_areas.proofs.Grouping.{added_after, added_none}
use Rattle.audit_areas.proofs.groups.add.Goals as goal

pub returns-in-Some : goal.returns-in-Some
returns-in-Some g c =
    on_ok_weaker c.push_last_and.result
    (λ is. is ∙ added_after g.K.PartialEq.eq (λ p. (p.0, p.1.items)) c.args.pair c.args.groups.now.items c.pop.new.self.items c.in-Some.last
    c.in-Some.ensures.items)
    c.push_last_and.ensures

pub returns-in-None : goal.returns-in-None
returns-in-None g c =
    let no_group : vec_len c.args.groups.now - 1 ≡ 0 = omega (arith, c.in-None.ensures.cases.0) in
    on_ok_weaker c.push_new.result
    (λ is. is ∙ added_none g.K.PartialEq.eq (λ p. (p.0, p.1.items)) c.args.pair c.args.groups.now.items c.pop.new.self.items c.in-None.ensures.items
    (c.in-None.ensures.rest ∙ ap (λ (n : ℕ). take n c.args.groups.now.items) no_group))
    c.push_new.ensures
