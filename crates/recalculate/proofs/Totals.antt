-- How many areas a database has, and what the LSAs of all of them count.
use Rattle.std.proofs.Common.{◌≡◌, ℕ, ◌+◌, ◌<◌, ◌≤◌, false, cond, [], ◌∷◌, length, length-append, take, get_or, Option, Some, None, refl, ap, ◌∙◌, arith}
use Rattle.std.specs.Prelude.{IsSome, slice_get}
use Rattle.std.specs.List.{cons_option, count_by, sum_by}
use Rattle.std.proofs.lemmas.List.{length-map}
use Rattle.std.proofs.lemmas.List.Sums.{sum_by-append}
use Rattle.std.proofs.lemmas.Option.{slice_get-get_or}
use Rattle.lsdb.specs.declared.counts.LsaCounts.{LsaCounts}
use Rattle.lsdb.specs.declared.section.Section.TheVariants.{Area}
use Rattle.lsdb.specs.Counts.{counts_of, has_bit_v, virtual_link_count}
use Rattle.lsdb.specs.Lists.{AreaHead, IsDatabase, Lists, SectionLsas, areas_of, lsas_of, lsas_or_none}
use Rattle.lsdb.specs.Slots.{Slots, item_at, lists_of, lsas_in}
use Rattle.lsdb.proofs.AreaLemmas.{area_named}
use Rattle.routing_table.proofs.AreaLsaLemmas.{lsas_among, total_more}

areas_le : (db : Lists) → length (areas_of db) ≤ length db
areas_le [] = omega arith
areas_le (s ∷ db) = by s.area (areas_le db)
  where
    by : (head : Option AreaHead) → length (areas_of db) ≤ length db → length (cons_option head (areas_of db)) ≤ length (s ∷ db)
    by None le = omega (arith, le)
    by (Some area) le = omega (arith, le)

pub areas_few : (db : Lists) → IsDatabase db → length (areas_of db) ≤ 65
areas_few db sound = omega (arith, areas_le db, sound.heads.few, length-map db (λ (s : SectionLsas). s.area))

-- ---- area by area

same_counts : (k l m n p q : ℕ) → k ≡ l → m ≡ n → p ≡ q
    → let a : LsaCounts = record { lsas = k; virtual_ends = m; virtual_links = p } in
    let b : LsaCounts = record { lsas = l; virtual_ends = n; virtual_links = q } in a ≡ b
same_counts k l m n p q e f g = rw (e, f, g) refl

no_head : AreaHead
no_head = record { id = 0; is_stub = false }

module _ (d : Slots) (i : ℕ) (sound : IsDatabase (lists_of d)) (lt : i < length (areas_of (lists_of d))) where
  head : AreaHead
  unfolding no_head
  head = get_or (areas_of (lists_of d)) i no_head

  here : slice_get (areas_of (lists_of d)) i ≡ Some head
  unfolding head
  here = slice_get-get_or (areas_of (lists_of d)) i no_head lt

  pub section_there : IsSome (item_at (lists_of d) i)
  section_there = (area_named d i head sound here).exists

  of_area : lsas_in d i ≡ lsas_of (Area (record { 0 = head.id })) (lists_of d)
  of_area = ap lsas_or_none (area_named d i head sound here).same

  -- the counts of an area more
  pub counts_more : (lsas ends links : ℕ) (one : LsaCounts)
      → let so_far : LsaCounts = record { lsas = lsas; virtual_ends = ends; virtual_links = links } in
      so_far ≡ counts_of (lsas_among (lists_of d) (take i (areas_of (lists_of d)))) → one ≡ counts_of (lsas_in d i)
      → let more : LsaCounts = record { lsas = lsas + one.lsas; virtual_ends = ends + one.virtual_ends; virtual_links = links + one.virtual_links } in
      more ≡ counts_of (lsas_among (lists_of d) (take (i + 1) (areas_of (lists_of d))))
  counts_more lsas ends links one before this =
      let one_is : one ≡ counts_of (lsas_of (Area (record { 0 = head.id })) (lists_of d)) = this ∙ ap counts_of of_area in
      same_counts _ _ _ _ _ _
      (total_more (lists_of d) i head here length length-append lsas one.lsas
      (ap (λ (c : LsaCounts). c.lsas) before) (ap (λ (c : LsaCounts). c.lsas) one_is))
      (total_more (lists_of d) i head here (count_by has_bit_v) (sum_by-append (λ lsa. cond (has_bit_v lsa) 1 0)) ends one.virtual_ends
      (ap (λ (c : LsaCounts). c.virtual_ends) before) (ap (λ (c : LsaCounts). c.virtual_ends) one_is))
      (total_more (lists_of d) i head here (sum_by virtual_link_count) (sum_by-append virtual_link_count) links one.virtual_links
      (ap (λ (c : LsaCounts). c.virtual_links) before) (ap (λ (c : LsaCounts). c.virtual_links) one_is))
