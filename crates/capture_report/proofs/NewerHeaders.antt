-- LSAs of which a header is newer than the newest that is shown.
use Rattle.std.proofs.Common.{◌≡◌, Bool, true, false, List, [], ◌∷◌, Option, Some, None, refl, sym, ap, subst, ◌∙◌}
use Rattle.std.specs.Prelude.{not, ◌&&◌, ◌||◌, is_some, if◌then◌else◌}
use Rattle.std.specs.BTreeMap.{BTreeMap, get}
use Rattle.std.specs.List.{filter_map, cons_option, list_any}
use Rattle.std.specs.Ordering.{eq_by_cmp}
use Rattle.std.specs.declared.cmp.Ordering.{Ordering}
use Rattle.std.proofs.lemmas.List.Folds.{list_any-append}
use Rattle.lsa_instances.specs.declared.header.Header.{Header}
use Rattle.lsa_instances.specs.declared.header.InstanceId.{InstanceId}
use Rattle.lsa_instances.specs.declared.place.Place.{Place}
use Rattle.lsa_instances.specs.Headers.{is_at_max_age}
use Rattle.lsa_instances.specs.Order.{place_cmp}
use Rattle.network_files.specs.declared.parsed_file.ParsedFile.{ParsedFile}
use Rattle.capture_report.specs.Newer.{AreNewer, Instance, headers_of, instance_named, is_newer, is_same_lsa, shown_of}
use Rattle.capture_report.specs.Sets.{AreOnce, has}
use Rattle.capture_report.specs.steps.Newest.{AreNewest, all_newer, is_over, is_over_some, newer_by}
use Rattle.capture_report.specs.steps.PlaceOrder.{derived_cmp}
use Rattle.capture_report.proofs.OneMore.{and_false, and_true}
use Rattle.capture_report.proofs.PlaceOrder.{same_cmp}

over_some : (newest : Option InstanceId) (instance : InstanceId) → is_over_some newest instance ≡ (is_some newest && is_over newest instance)
over_some None instance = refl
over_some (Some known) instance = refl

module _ (shown : List Instance) (newest : BTreeMap Place InstanceId) (known : AreNewest shown newest) where
  newer_if : (one : Instance) → is_over_some (get place_cmp newest one.0) one.1 ≡ is_newer shown one
  newer_if one =
      over_some (get place_cmp newest one.0) one.1
      ∙ ap (λ b. b && is_over (get place_cmp newest one.0) one.1) (known.which one.0)
      ∙ ap (λ b. list_any (is_same_lsa one.0) shown && b) (known.over one.0 one.1)

  module _ (lsa : Place) where
    -- an instance of the LSA that is newer
    abbrev is_one : Instance → Bool
    is_one one = is_same_lsa lsa one && is_newer shown one

    one_header : (one : Instance) (flushed over : Bool) (more : List Place) (others : List Instance) → over ≡ is_newer shown one
        → has place_cmp lsa more ≡ list_any is_one others
        → has place_cmp lsa (cons_option (if not flushed && over then Some one.0 else None) more)
        ≡ list_any is_one (cons_option (if flushed then None else Some one) others)
    one_header one true over more others e h = h
    one_header one false true more others e h =
        ap (λ b. is_same_lsa lsa one || b) h
        ∙ ap (λ b. b || list_any is_one others) (sym (and_true (is_same_lsa lsa one)) ∙ ap (λ b. is_same_lsa lsa one && b) e)
    one_header one false false more others e h =
        h ∙ ap (λ b. b || list_any is_one others) (sym (and_false (is_same_lsa lsa one)) ∙ ap (λ b. is_same_lsa lsa one && b) e)

    of_headers : (headers : List Header)
        → has place_cmp lsa (filter_map (newer_by (get place_cmp newest)) headers) ≡ list_any is_one (filter_map instance_named headers)
    of_headers [] = refl
    of_headers (header ∷ headers) =
        let one : Instance = (header.place, header.instance) in
        one_header one (is_at_max_age header) (is_over_some (get place_cmp newest header.place) header.instance)
        (filter_map (newer_by (get place_cmp newest)) headers) (filter_map instance_named headers) (newer_if one) (of_headers headers)

    of_files : {A : Type 0} (files : List (ParsedFile A)) → has place_cmp lsa (all_newer (get place_cmp newest) files) ≡ list_any is_one (headers_of files)
    of_files [] = refl
    of_files (file ∷ files) =
        list_any-append (eq_by_cmp place_cmp lsa) (filter_map (newer_by (get place_cmp newest)) file.headers.items) (all_newer (get place_cmp newest) files)
        ∙ ap (λ b. b || has place_cmp lsa (all_newer (get place_cmp newest) files)) (of_headers file.headers.items)
        ∙ ap (λ b. list_any is_one (filter_map instance_named file.headers.items) || b) (of_files files)
        ∙ sym (list_any-append is_one (filter_map instance_named file.headers.items) (headers_of files))

are_newer : {A : Type 0} (files : List (ParsedFile A)) (newest : BTreeMap Place InstanceId) (lsas left : List Place)
    → AreNewest (shown_of files) newest → lsas ≡ all_newer (get place_cmp newest) files → AreOnce place_cmp lsas left
    → AreNewer (headers_of files) (shown_of files) left
are_newer files newest lsas left known all once = record {
  which = λ lsa. once.which lsa ∙ ap (has place_cmp lsa) all ∙ of_files (shown_of files) newest known lsa files;
  order = once.order;
}

-- the same of a map and a set in the derived order
pub are_newer_derived : {A : Type 0} (files : List (ParsedFile A)) (newest : BTreeMap Place InstanceId) (lsas left : List Place)
    → AreNewest (shown_of files) newest → lsas ≡ all_newer (get derived_cmp newest) files → AreOnce derived_cmp lsas left
    → AreNewer (headers_of files) (shown_of files) left
are_newer_derived files newest lsas left known all once =
    let P : (Place → Place → Ordering) → Type 0 = λ cmp. lsas ≡ all_newer (get cmp newest) files in
    let Q : (Place → Place → Ordering) → Type 0 = λ cmp. AreOnce cmp lsas left in
    are_newer files newest lsas left known (subst P same_cmp all) (subst Q same_cmp once)
