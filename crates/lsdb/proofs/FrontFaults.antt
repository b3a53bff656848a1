-- A fault of the front of a dump is the first fault of the dump.
use Rattle.std.proofs.Common.{◌≡◌, ℕ, zero, suc, Bool, true, false, cond, List, [], ◌∷◌, ◌++◌, Option, None, Result, Ok, Err, IsOk, sym, ap, ◌∙◌, subst}
use Rattle.std.specs.Int.{w16}
use Rattle.lsa_codec.specs.declared.fault.LsaFault.{LsaFault}
use Rattle.lsa_codec.specs.Decoding.{decoded}
use Rattle.lsdb.specs.declared.fault.DumpFault.{DumpFault}
use Rattle.lsdb.specs.declared.fault.ReadError.{ReadError}
use Rattle.lsdb.specs.declared.fault.ReadError.TheVariants as errors
use Rattle.lsdb.specs.Lists.{AreaHead, Lists, SectionLsas}
use Rattle.lsdb.specs.Loading.{◌>>=◌, At, number_at, placed, accepted, lsa_at, lsas_from, counted_at, section_at, id_at, kind_at, area_at, areas_from, magic_at, version_at, area_count_at, sections_at, dump_at, loaded, beginning}
use Rattle.lsdb.specs.Loading.{first_lsa_at, section_front_at, area_front_at, first_section_at, sections_front_at, front_at, front_loaded}
use Rattle.lsdb.specs.BaseLoading.{session_version_at, base_at, base_front_at, small_base, base_loaded, base_front_loaded}
use Rattle.lsdb.specs.steps.Reading.{Fails, IsWantAfter, reported_fault}

-- each fault of one reading is the fault of another
abbrev pub Leads : {A B : Type 0} → Result A DumpFault → Result B DumpFault → Type 0
Leads less more = (d : DumpFault) → less ≡ Err d → more ≡ Err d

-- ---- steps of a reader

leads_ok : {A B : Type 0} (x : A) (more : Result B DumpFault) → Leads (Ok x) more
leads_ok x more d e = absurd cc

leads_fault : {A B : Type 0} (f : DumpFault) → Leads {A = A} {B = B} (Err f) (Err f)
leads_fault {A} {B} f d e = let same : f ≡ d = cc in ap (λ (x : DumpFault). Err x) same

leads_bind : {A B C : Type 0} (r : Result A DumpFault) (f : A → Result B DumpFault) (g : A → Result C DumpFault)
    → ((x : A) → Leads (f x) (g x)) → Leads (r >>= f) (r >>= g)
leads_bind (Ok x) f g h = h x
leads_bind (Err e) f g h = leads_fault e

leads_then : {A B C : Type 0} (less : Result A DumpFault) (more : Result B DumpFault) (f : B → Result C DumpFault) → Leads less more
    → Leads less (more >>= f)
leads_then {A} {B} {C} less more f h d e = ap (λ (r : Result B DumpFault). r >>= f) (h d e)

leads_if : {A B : Type 0} (b : Bool) (f : DumpFault) (less : Result A DumpFault) (more : Result B DumpFault) → Leads less more
    → Leads (cond b (Err f) less) (cond b (Err f) more)
leads_if true f less more h = leads_fault f
leads_if false f less more h = h

-- ---- the parts of a dump

leads_placed : (area : Option AreaHead) (at : At) (r : Result (List ℕ) LsaFault) → Leads (accepted at r) (placed area at r)
leads_placed area at (Err f) = leads_fault _
leads_placed area at (Ok lsa) = leads_ok lsa _

leads_lsa : (area : Option AreaHead) (at : At) → Leads (accepted at (decoded at.rest)) (lsa_at area at)
unfolding lsa_at
leads_lsa area at = leads_placed area at (decoded at.rest)

leads_lsas : (area : Option AreaHead) (n : ℕ) (at : At) → Leads (first_lsa_at n at) (lsas_from area n [] at)
unfolding lsas_from
leads_lsas area zero at = leads_ok [] _
leads_lsas area (suc n) at = leads_then (accepted at (decoded at.rest)) (lsa_at area at) _ (leads_lsa area at)

leads_section : (area : Option AreaHead) (at : At) → Leads (section_front_at area at) (section_at area at)
unfolding section_at section_front_at
leads_section area at =
    leads_bind (number_at w16 at) _ _
    (λ count. leads_then _ (counted_at area at count) _ (leads_if _ _ _ _ (leads_lsas area count.0 count.1)))

leads_area : (at : At) → Leads (area_front_at at) (area_at None at)
unfolding area_at area_front_at
leads_area at = leads_bind (id_at None at) _ _ (λ id. leads_bind (kind_at id.0 id.1) _ _ (λ kind. leads_section _ kind.1))

leads_areas : (n : ℕ) (at : At) (f : SectionLsas × At → Lists × At → Result (Lists × At) DumpFault)
    → Leads (first_section_at n at) (areas_from n None [] at >>= λ areas. section_at None areas.1 >>= λ as_wide. f as_wide areas)
unfolding areas_from
leads_areas zero at f = leads_then (section_front_at None at) (section_at None at) _ (leads_section None at)
leads_areas (suc n) at f =
    leads_then (area_front_at at) _ _
    (leads_then (area_front_at at) (area_at None at) (λ area. areas_from n area.0.area ([] ++ area.0 ∷ []) area.1) (leads_area at))

leads_sections : (at : At) → Leads (sections_front_at at) (sections_at at)
unfolding sections_at sections_front_at
leads_sections at =
    leads_bind (area_count_at at) _ _
    (λ count. leads_areas count.0 count.1 (λ as_wide areas. Ok (areas.0 ++ as_wide.0 ∷ [], as_wide.1)))

-- ---- the whole

leads_dump : (at : At) → Leads (front_at at) (dump_at at)
unfolding dump_at front_at
leads_dump at =
    leads_bind (magic_at at) _ _
    (λ start. leads_bind (version_at start) _ _
    (λ first. leads_then (sections_front_at first) (sections_at first) _ (leads_sections first)))

pub leads_loaded : (bytes : List ℕ) → Leads (front_loaded bytes) (loaded bytes)
unfolding loaded front_loaded
leads_loaded bytes = leads_if _ _ _ _ (leads_dump (beginning bytes))

leads_base : (at : At) → Leads (base_front_at at) (base_at at)
unfolding base_at base_front_at
leads_base at = leads_bind (magic_at at) _ _ (λ start. leads_bind (session_version_at start) _ _ (λ first. leads_sections first))

pub leads_base_loaded : (bytes : List ℕ) → Leads (base_front_loaded bytes) (base_loaded bytes)
unfolding base_loaded base_front_loaded
leads_base_loaded bytes =
    leads_if _ _ _ _
    (leads_then (base_front_at (beginning bytes)) (base_at (beginning bytes)) (small_base (beginning bytes)) (leads_base (beginning bytes)))

-- ---- what is reported

-- where the front has a fault, nothing is loaded
pub front_refuses : {Y Z : Type 0} (less : Result Z DumpFault) (more : Result Y DumpFault) (y : Y) (f : DumpFault) → Leads less more
    → more ≡ Ok y → less ≡ Err f → ⊥
front_refuses {Y} {Z} less more y f leads is fault = let no : ◌≡◌ {A = Result Y DumpFault} (Ok y) (Err f) = sym is ∙ leads f fault in cc

-- where it has one, memory did not run out
pub front_reported : {Y Z : Type 0} (error : ReadError) (less : Result Z DumpFault) (more : Result Y DumpFault) (f : DumpFault) → Leads less more
    → Fails error more → IsWantAfter less error → less ≡ Err f → reported_fault error ≡ f
front_reported {Y} {Z} errors.Memory less more f leads fails want is =
    let no : false ≡ true = subst (λ (r : Result Z DumpFault). IsOk r) is want in
    absurd cc
front_reported {Y} {Z} (errors.Fault g) less more f leads fails want is =
    let same : ◌≡◌ {A = Result Y DumpFault} (Err g) (Err f) = sym fails ∙ leads f is in
    cc
