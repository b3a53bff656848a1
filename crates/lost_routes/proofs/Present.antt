-- A router has an entry for each prefix of its entries.
use Rattle.std.proofs.Common.{◌≡◌, ◌∙◌, Bool, true, false, cond, List, [], ◌∷◌, inl, inr, refl, sym, ap}
use Rattle.std.specs.Prelude.{not}
use Rattle.std.specs.List.{filter}
use Rattle.std.specs.Ordering.{eq_by_cmp, is_eq}
use Rattle.std.proofs.lemmas.Cmp.{tied_itself}
use Rattle.lsa_codec.specs.Order.{prefix_cmp}
use Rattle.lsa_codec.specs.Prefix.{Net}
use Rattle.lsa_codec.proofs.OrderLemmas.{prefix_total}
use Rattle.area_graph.specs.Rising.{rising}
use Rattle.area_graph.proofs.MemberLemmas.{In, In-list_any}
use Rattle.forwarding.specs.Matches.{RouterValue}
use Rattle.router_entries.specs.Entries.{has_entry, nets_of}
use Rattle.router_entries.proofs.EntryLemmas.{any_of, tested}
use Rattle.lost_routes.specs.Lost.{lacks, missing}

filter_none : {X : Type 0} (p : X → Bool) (xs : List X) → ((x : X) → In xs x → p x ≡ false) → filter p xs ≡ []
filter_none p [] none = refl
filter_none {X} p (x ∷ xs) none =
    ap (λ (b : Bool). cond b (x ∷ filter p xs) (filter p xs)) (none x (inl refl)) ∙ filter_none p xs (λ y i. none y (inr i))

module _ (r : RouterValue) where
  has_each : (net : Net) → In (nets_of r) net → has_entry r net ≡ true
  has_each net i =
      tested r net ∙ sym (any_of r net) ∙ In-list_any (eq_by_cmp prefix_cmp net) (nets_of r) net i (ap is_eq (tied_itself prefix_total net))

  pub none_missing : missing r r ≡ []
  none_missing = ap (rising prefix_cmp) (filter_none (lacks r) (nets_of r) (λ net i. ap not (has_each net i)))
