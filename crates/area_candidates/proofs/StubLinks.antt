-- The links of a router-LSA, numbered from 1.
use Rattle.std.proofs.Common.{◌≡◌, ℕ, zero, suc, ◌+◌, ◌<◌, ◌≤◌, Bool, cond, List, [], ◌++◌, get_or, length, take, Option, refl, sym, ap, ◌∙◌, subst, arith}
use Rattle.std.specs.List.{cons_option, enumerate_from, filter_map}
use Rattle.std.proofs.lemmas.Bool.{eq-eqb}
use Rattle.std.proofs.lemmas.List.FromFn.{get_or-enumerate_from, length-enumerate_from}
use Rattle.lsa_codec.specs.declared.link.Link.{Link}
use Rattle.lsa_codec.specs.Fields.{kind_of}
use Rattle.lsa_codec.specs.Links.{link_count, link_length, links_from, links_of}
use Rattle.area_graph.specs.AreaEdges.{router_links}
use Rattle.area_routes.proofs.AddsLemmas.{filter_map_adds}
use Rattle.area_candidates.specs.declared.draft.Draft.{Draft}
use Rattle.area_candidates.proofs.PushingLemmas.{all_added, none_added, one_added}

-- ---- how many

from_length : (n offset : ℕ) (lsa : List ℕ) → length (links_from n offset lsa) ≡ n
unfolding links_from
from_length zero offset lsa = refl
from_length (suc n) offset lsa = ap suc (from_length n (offset + link_length offset lsa) lsa)

pub length-links_of : (lsa : List ℕ) → length (links_of lsa) ≡ link_count lsa
length-links_of lsa = from_length (link_count lsa) 24 lsa

-- ---- which

pub links_of_router : (lsa : List ℕ) → kind_of lsa ≡ 1 → router_links lsa ≡ links_of lsa
links_of_router lsa kind = ap (λ (b : Bool). cond b (links_of lsa) []) (eq-eqb (kind_of lsa) 1 kind)

-- ---- as candidates

module _ (f : ℕ × Link → Option Draft) (start : List Draft) (links : List Link) where
  pub none_numbered : start ≡ start ++ filter_map f (take 0 (enumerate_from 1 links))
  none_numbered = none_added (filter_map_adds f) start (enumerate_from 1 links)

  pub one_numbered : (place : ℕ) (link : Link) (before next : List Draft) → place < length links → link ≡ get_or links place link
      → before ≡ start ++ filter_map f (take place (enumerate_from 1 links)) → next ≡ before ++ cons_option (f (place + 1, link)) []
      → next ≡ start ++ filter_map f (take (place + 1) (enumerate_from 1 links))
  one_numbered place link before next lt item was is =
      let one : ℕ × Link = (place + 1, link) in
      let low : place < length (enumerate_from 1 links) = subst (λ (n : ℕ). place < n) (sym (length-enumerate_from 1 links)) lt in
      let number : place + 1 ≡ 1 + place = omega arith in
      let at : one ≡ get_or (enumerate_from 1 links) place one =
      (λ i. (number i, item i)) ∙ sym (get_or-enumerate_from 1 links place one lt) in
      one_added (filter_map_adds f) start (enumerate_from 1 links) place one before next low at was is

  pub all_numbered : (place : ℕ) (now : List Draft) → length links ≤ place
      → now ≡ start ++ filter_map f (take place (enumerate_from 1 links)) → now ≡ start ++ filter_map f (enumerate_from 1 links)
  all_numbered place now past was =
      all_added (filter_map_adds f) start (enumerate_from 1 links) place now
      (subst (λ (n : ℕ). n ≤ place) (sym (length-enumerate_from 1 links)) past) was
