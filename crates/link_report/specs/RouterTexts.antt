-- The lines of `routers`.
use Rattle.std.specs.Prelude.{ℕ, Bool, if◌then◌else◌, List, [], ◌∷◌, ◌++◌, map, codes, decimal, unwrap_or}
use Rattle.lsa_codec.specs.declared.address.AreaId.{AreaId}
use Rattle.lsa_codec.specs.declared.address.RouterId.{RouterId}
use Rattle.lsa_codec.specs.Spelling.{address_text}
use Rattle.study_text.specs.Lists.{lines_of, listed}
use Rattle.study_text.specs.Shown.{Called}
use Rattle.link_report.specs.Routers.{RouterValue}

-- a router's name, or a dash where it has none
abbrev pub name_or_dash : Called → RouterId → List ℕ
name_or_dash called router = unwrap_or (called router.0) (codes "-")

-- the Router ID, the name and the areas
abbrev pub areas_text : Called → RouterId → List AreaId → List ℕ
areas_text called router areas =
    address_text router.0 ++ codes " " ++ name_or_dash called router ++ codes " areas " ++ listed (map (λ area. address_text area.0) areas)

-- `abr` for an area border router, `asbr` for an AS boundary router
abbrev pub roles_text : Bool → Bool → List ℕ
roles_text is_abr is_asbr = listed ((if is_abr then codes "abr" ∷ [] else []) ++ (if is_asbr then codes "asbr" ∷ [] else []))

-- how many links there are of types 1, 2 and 3
abbrev pub counts_text : RouterValue → List ℕ
counts_text v = codes " links " ++ decimal v.links ++ codes " transit " ++ decimal v.transit ++ codes " stubs " ++ decimal v.stubs

-- the line of a router
abbrev pub router_line : Called → RouterValue → List ℕ
router_line called v = areas_text called v.router v.areas ++ codes " roles " ++ roles_text v.is_abr v.is_asbr ++ counts_text v

abbrev pub router_lines : Called → List RouterValue → List ℕ
router_lines called values = lines_of (router_line called) values
