-- A router-LSA whose chosen links are removed is that of the maker that removes links.
use Rattle.std.proofs.Common.{◌≡◌, ◌≤◌, ℕ, suc, Bool, true, false, cond, List, [], ◌∷◌, ◌++◌, length, filter, map, take, drop, not, Option, Some, None, Result, Ok, Err, refl, sym, ap, ◌∙◌, arith}
use Rattle.std.specs.Prelude.{◌==◌}
use Rattle.std.specs.List.{flat_map, list_any}
use Rattle.std.proofs.lemmas.List.{length-append, length-take, length-drop}
use Rattle.byteorder.specs.Endian.{big_bytes}
use Rattle.lsa_codec.specs.declared.link.Link.{Link}
use Rattle.lsa_codec.specs.declared.fault.MakeFault.{MakeFault}
use Rattle.lsa_codec.specs.declared.fault.MakeFault.TheVariants.{NoLink}
use Rattle.lsa_codec.specs.Checksum.{with_checksum}
use Rattle.lsa_codec.specs.Fields.{put_number}
use Rattle.lsa_codec.specs.Links.{links_of}
use Rattle.lsa_codec.specs.Making.{link_text, with_links, without_links}
use Rattle.lsdb.specs.Slots.{Slot}
use Rattle.lsa_remaking.specs.declared.link_change.LinkChange.{LinkChange}
use Rattle.lsa_remaking.specs.declared.link_change.LinkChange.TheVariants.{Stays, Removed}
use Rattle.lsa_remaking.specs.declared.link_change.ChangedLink.{ChangedLink}
use Rattle.lsa_remaking.specs.Making.{remeasured}
use Rattle.lsa_remaking.specs.Relinking.{is_left, text_by, changed_text, count_left, changed_body, counted_body, relinked}
use Rattle.event_links.specs.Interfaces.{is_among}
use Rattle.event_lsas.specs.Outcomes.{LsaChange, kept, becomes, change_of_chosen, with_chosen, unless_empty, can_replace, replaced, relinked_where}

module _ (chosen : List Link) (lsa : List ℕ) where
  -- the links, of which the chosen ones are removed
  abbrev removing : List Link → List ChangedLink
  removing links = map (λ link. record { link = link; change = change_of_chosen Removed chosen link }) links

  -- those that stay
  abbrev staying : List Link → List Link
  staying links = filter (λ link. not (is_among chosen link)) links

  texts : (links : List Link) → flat_map (changed_text lsa) (removing links) ≡ flat_map (link_text lsa) (staying links)
  texts [] = refl
  texts (link ∷ links) = by_test (is_among chosen link) (texts links) where
    by_test : (b : Bool) → flat_map (changed_text lsa) (removing links) ≡ flat_map (link_text lsa) (staying links)
        → text_by (cond b Removed Stays) lsa link ++ flat_map (changed_text lsa) (removing links)
        ≡ flat_map (link_text lsa) (cond (not b) (link ∷ staying links) (staying links))
    by_test true rest = rest
    by_test false rest = ap (λ (t : List ℕ). link_text lsa link ++ t) rest

  counts : (links : List Link) → count_left (removing links) ≡ length (staying links)
  counts [] = refl
  counts (link ∷ links) = by_test (is_among chosen link) (counts links) where
    left : List ChangedLink
    left = filter (λ changed. is_left changed.change) (removing links)

    by_test : (b : Bool) → length left ≡ length (staying links)
        → length (cond (is_left (cond b Removed Stays)) ((record { link = link; change = cond b Removed Stays }) ∷ left) left)
        ≡ length (cond (not b) (link ∷ staying links) (staying links))
    by_test true rest = rest
    by_test false rest = ap suc rest

  -- the bytes before the links, and those that stay
  abbrev body : List ℕ
  body = take 24 lsa ++ flat_map (link_text lsa) (staying (links_of lsa))

  long_body : 24 ≤ length lsa → 24 ≤ length body
  long_body long = omega (arith, length-append (take 24 lsa) (flat_map (link_text lsa) (staying (links_of lsa))), length-take 24 lsa)

  counted_length : (n : ℕ) → 24 ≤ length body → length (put_number 2 22 n body) ≡ length body
  counted_length n long =
      omega (arith, length-append (take 22 body ++ big_bytes 2 n) (drop 24 body), length-append (take 22 body) (big_bytes 2 n), length-take 22 body, length-drop 24 body)

  pub removed_is : 24 ≤ length lsa → relinked (with_chosen Removed chosen lsa) lsa ≡ with_links (staying (links_of lsa)) lsa
  removed_is long =
      let count : ℕ = length (staying (links_of lsa)) in
      ap (λ (n : ℕ). remeasured (put_number 2 22 n (changed_body (removing (links_of lsa)) lsa))) (counts (links_of lsa))
      ∙ ap (λ (t : List ℕ). remeasured (put_number 2 22 count (take 24 lsa ++ t))) (texts (links_of lsa))
      ∙ ap (λ (n : ℕ). with_checksum (put_number 2 18 n (put_number 2 22 count body))) (counted_length count (long_body long))

  without : list_any (is_among chosen) (links_of lsa) ≡ true → without_links (is_among chosen) lsa ≡ Ok (with_links (staying (links_of lsa)) lsa)
  without some = ap (λ (b : Bool). cond b (Ok (with_links (staying (links_of lsa)) lsa)) (Err NoLink)) some

  -- an LSA that is left
  pub removed_without : (new : List ℕ) → 24 ≤ length lsa → list_any (is_among chosen) (links_of lsa) ≡ true
      → relinked_where Removed chosen lsa ≡ becomes (Some new) → without_links (is_among chosen) lsa ≡ Ok new
  removed_without new long some is =
      without some ∙ ap Ok (sym (removed_is long) ∙ from_change (length chosen == 0) (count_left (with_chosen Removed chosen lsa) == 0) is) where
        made : List ℕ
        made = relinked (with_chosen Removed chosen lsa) lsa

        from_test : (can : Bool) → cond can (becomes (Some made)) kept ≡ becomes (Some new) → made ≡ new
        from_test true e = cc
        from_test false e = absurd cc

        from_change : (none empty : Bool) → cond none kept (replaced lsa (cond empty None (Some made))) ≡ becomes (Some new) → made ≡ new
        from_change true empty e = absurd cc
        from_change false true e = absurd cc
        from_change false false e = from_test (can_replace lsa made) e
