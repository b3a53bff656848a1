use Rattle.std.proofs.Common.{◌≡◌, ◌<◌, length, arith, subst, ap, ◌∙◌, rules, vec_len, Some, None, Option}
use Rattle.std.specs.Prelude.{IsSome, slice_get, option_map}
use Rattle.lsdb.specs.Lists.{AreaHead, areas_of}
use Rattle.lsdb.specs.Slots.{Slots, lists_of}
use Rattle.lsdb.specs.steps.View.{head_of, slots_of}
use Rattle.lsdb.proofs.Areas.{areas_count, heads_seen, area_seen}
use Rattle.lsdb.proofs.database.Database.area.Goals as goal

none_is_none : (head : Option AreaHead) → head ≡ None → IsSome head → ⊥
none_is_none None e some = absurd (search rules)
none_is_none (Some area) e some = absurd cc

pub index-requires : goal.index-requires
index-requires g c =
    let ss = c.self.inside.sections.items in
    let sized : vec_len c.self.inside.sections ≡ length ss = search rules in
    let within : c.args.i < length (areas_of (lists_of (slots_of ss))) = rw c.self.view_is c.requires in
    omega (arith, areas_count (lists_of (slots_of ss)) c.self.invariant.sound.heads, heads_seen ss, sized, within)

pub unreachable-requires : goal.unreachable-requires
unreachable-requires g c =
    let some =
    (area_seen c.self.inside.sections.items c.args.i c.index.result.now c.self.invariant.sound.heads (rw c.self.view_is c.requires) c.index.ensures).1 in
    let none : option_map head_of c.index.result.now.area ≡ None = ap (option_map head_of) c.in-None.is in
    absurd (none_is_none (option_map head_of c.index.result.now.area) none some)

pub returns : goal.returns
returns g c =
    let ss = c.self.inside.sections.items in
    subst (λ (d : Slots). slice_get (areas_of (lists_of d)) c.args.i ≡ Some (head_of c.in-Some.head)) c.self.view_is
    ((area_seen ss c.args.i c.index.result.now c.self.invariant.sound.heads (rw c.self.view_is c.requires) c.index.ensures).0
    ∙ ap (option_map head_of) c.in-Some.is)
