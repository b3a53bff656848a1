-- The preferred entry of a list is the preferred one among its entries of AS boundary routers.
use Rattle.std.proofs.Common.{◌≡◌, Bool, true, false, cond, List, [], ◌∷◌, refl, sym, ap, ◌∙◌}
use Rattle.std.specs.Prelude.{◌&&◌}
use Rattle.std.specs.List.{filter}
use Rattle.lsa_codec.specs.declared.address.RouterId.{RouterId}
use Rattle.area_graph.specs.Least.{least}
use Rattle.area_routes.specs.Inter.{same_router}
use Rattle.area_routes.specs.Values.{EntryValue}
use Rattle.external_routes.specs.Choose.{is_asbr, is_asbr_kind, preference, preferred}

abbrev of_asbrs : List EntryValue → List EntryValue
of_asbrs es = filter (λ e. is_asbr_kind e.kind) es

those_of : (q : RouterId) (es : List EntryValue) → filter (is_asbr q) (of_asbrs es) ≡ filter (is_asbr q) es
those_of q [] = refl
those_of q (e ∷ es) = by (is_asbr_kind e.kind) refl (those_of q es)
  where
    by : (b : Bool) → is_asbr_kind e.kind ≡ b → filter (is_asbr q) (of_asbrs es) ≡ filter (is_asbr q) es
        → filter (is_asbr q) (cond b (e ∷ of_asbrs es) (of_asbrs es)) ≡ filter (is_asbr q) (e ∷ es)
    by true h rest = ap (λ l. cond (is_asbr q e) (e ∷ l) l) rest
    by false h rest = rest ∙ sym (ap (λ b. cond (b && same_router e.router q) (e ∷ filter (is_asbr q) es) (filter (is_asbr q) es)) h)

pub preferred_same : (es : List EntryValue) (q : RouterId) → preferred (of_asbrs es) q ≡ preferred es q
preferred_same es q = ap (least preference) (those_of q es)
