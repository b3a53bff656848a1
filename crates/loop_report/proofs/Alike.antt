-- All addresses of an atom have the same forwarding graph.
use Rattle.std.proofs.Common.{◌≡◌, false, ℕ, zero, suc, ◌<◌, ◌≤◌, List, [], ◌∷◌, map, Option, None, inl, inr, refl, sym, ap, ◌∙◌, arith, ⊎_elim}
use Rattle.std.specs.Option.{option_or}
use Rattle.std.proofs.lemmas.Bool.{cases_lt}
use Rattle.lsa_codec.specs.Prefix.{Net, masked}
use Rattle.lsa_codec.specs.declared.address.Addr.{Addr}
use Rattle.lsdb.specs.Lists.{Lists}
use Rattle.area_graph.proofs.MemberLemmas.{In}
use Rattle.forwarding.specs.Graphs.{StepValue, graph_of, routers_of, step_of}
use Rattle.forwarding.specs.Matches.{MatchValue, RouterValue, entry_for, has_net, longest_match, longest_within}
use Rattle.loop_report.specs.Atoms.{IsInAtom, nets_in_either}
use Rattle.loop_report.proofs.Among.{among_is, among_was, not_among}
use Rattle.loop_report.proofs.Covering.{shorter_same}

map_same : {X Y : Type 0} (f g : X → Y) (xs : List X) → ((x : X) → In xs x → f x ≡ g x) → map f xs ≡ map g xs
map_same f g [] same = refl
map_same {X} {Y} f g (x ∷ xs) same =
    ap (λ (y : Y). y ∷ map f xs) (same x (inl refl)) ∙ ap (λ (ys : List Y). g x ∷ ys) (map_same f g xs (λ z i. same z (inr i)))

-- ---- the longest match of two addresses

module _ {E : Type 0} (entry : Net → Option E) (a b : Addr) (len : ℕ) (same : (shorter : ℕ) → shorter ≤ len → masked a shorter ≡ masked b shorter)
    (none_a : (longer : ℕ) → len < longer → longer ≤ 32 → entry (masked a longer) ≡ None)
    (none_b : (longer : ℕ) → len < longer → longer ≤ 32 → entry (masked b longer) ≡ None) where
  at_length : (n : ℕ) → n ≤ 32 → entry (masked a n) ≡ entry (masked b n)
  at_length n le =
      ⊎_elim (λ longer. none_a n longer le ∙ sym (none_b n longer le)) (λ shorter. ap entry (same n shorter)) (cases_lt len n)

  within_same : (most : ℕ) → most ≤ 32 → longest_within entry a most ≡ longest_within entry b most
  within_same zero le = at_length 0 le
  within_same (suc most) le =
      ap (λ (o : Option E). option_or o (longest_within entry a most)) (at_length (suc most) le)
      ∙ ap (λ (o : Option E). option_or (entry (masked b (suc most))) o) (within_same most (omega arith))

  match_same : longest_match entry a ≡ longest_match entry b
  unfolding longest_match
  match_same = within_same 32 (omega arith)

-- ---- the forwarding graph of two addresses of an atom

abbrev step_with : RouterValue → Option MatchValue → StepValue
step_with r matched = record { router = r.router; matched = matched }

module _ (db : Lists) (nets : List Net)
    (none : (r : RouterValue) → In (routers_of db) r → (net : Net) → has_net nets net ≡ false → entry_for db r net ≡ None)
    (net : Net) (a b : Addr) (in_a : IsInAtom nets net a) (in_b : IsInAtom nets net b) where
  step_same : (r : RouterValue) → In (routers_of db) r → step_of db a r ≡ step_of db b r
  step_same r i =
      ap (λ (m : Option MatchValue). step_with r m)
      (match_same (entry_for db r) a b net.len
      (λ shorter le. shorter_same a b net.len shorter le in_a.short (in_a.covers ∙ sym in_b.covers))
      (λ longer lt le. none r i (masked a longer) (in_a.longest longer lt le)) (λ longer lt le. none r i (masked b longer) (in_b.longest longer lt le)))

  graph_same : graph_of db a ≡ graph_of db b
  graph_same = map_same (step_of db a) (step_of db b) (routers_of db) step_same

module _ (was is : Lists) (net : Net) (a b : Addr) (in_a : IsInAtom (nets_in_either was is) net a) (in_b : IsInAtom (nets_in_either was is) net b) where
  pub was_same : graph_of was a ≡ graph_of was b
  was_same =
      graph_same was (nets_in_either was is) (λ r i n. not_among was r n (nets_in_either was is) (among_was was is n r i)) net a b in_a in_b

  pub is_same : graph_of is a ≡ graph_of is b
  is_same =
      graph_same is (nets_in_either was is) (λ r i n. not_among is r n (nets_in_either was is) (among_is was is n r i)) net a b in_a in_b
