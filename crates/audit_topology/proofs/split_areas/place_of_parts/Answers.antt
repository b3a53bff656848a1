use Rattle.std.proofs.Common.{◌∙◌, Bool, List, Option, None, Some, cond, length, sym, ap}
use Rattle.std.specs.Prelude.{nat_lt}
use Rattle.lsa_codec.specs.declared.address.RouterId.{RouterId}
use Rattle.audit_places.specs.Places.{PlaceValue, in_parts}
use Rattle.audit_topology.proofs.split_areas.place_of_parts.Goals as goal

-- the place, if there is one
abbrev if_several : PlaceValue → Bool → Option PlaceValue
if_several place b = cond b (Some place) None

pub returns-then-not-are_several : goal.returns-then-not-are_several
returns-then-not-are_several g c =
    ap (if_several (in_parts c.args.area c.args.parts.items))
    (sym c.if-not-are_several.true ∙ c.are_several.ensures ∙ ap (λ (parts : List (List RouterId)). nat_lt 1 (length parts)) c.deref.ensures.value)

pub returns : goal.returns
returns g c =
    ap (λ (place : PlaceValue). Some place) c.of.ensures
    ∙ ap (if_several (in_parts c.args.area c.args.parts.items))
    (sym c.if-not-are_several.false ∙ c.are_several.ensures ∙ ap (λ (parts : List (List RouterId)). nat_lt 1 (length parts)) c.deref.ensures.value)
