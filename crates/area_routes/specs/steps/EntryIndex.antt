-- Entries of one kind by their routers.
use Rattle.std.specs.Prelude.{◌≡◌, ◌^◌, List, None}
use Rattle.std.specs.Map.{lookup}
use Rattle.std.specs.Ordering.{eq_by_cmp}
use Rattle.lsa_codec.specs.declared.address.RouterId.{RouterId}
use Rattle.area_routes.specs.declared.entry.EntryKind.{EntryKind}
use Rattle.area_routes.specs.declared.entry.EntryKind.TheVariants.{Border, AsbrIntra}
use Rattle.area_routes.specs.Inter.{border_of, find_entry}
use Rattle.lsa_codec.specs.Order.{router_cmp}
use Rattle.area_routes.specs.Values.{AreaResultValue, EntryValue, ResultBelow}

-- for each router there is its entry of the kind, if it has one
abbrev pub IsIndexOf : EntryKind → List EntryValue → List (RouterId × EntryValue) → Type 0
IsIndexOf kind entries index = (router : RouterId) → lookup (eq_by_cmp router_cmp router) index ≡ find_entry kind entries router

-- the indexes of an area's entries as area border routers and as AS boundary routers
pub record IsIndexed (result : AreaResultValue) (borders asbrs : List (RouterId × EntryValue)) : Type 0 where
  pub below : ResultBelow (2 ^ 33) result
  pub borders_of : IsIndexOf Border result.entries borders
  pub asbrs_of : IsIndexOf AsbrIntra result.entries asbrs

-- no router of the area is an area border router
abbrev pub IsBorderless : AreaResultValue → Type 0
IsBorderless area = (router : RouterId) → border_of area.entries router ≡ None
