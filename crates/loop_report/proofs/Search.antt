-- The search for an address of an atom: from each address that a longer prefix covers to the end of that prefix.
use Rattle.std.proofs.Common.{◌≡◌, ◌^◌, ◌<◌, ◌≤◌, List, sym, ap, ◌∙◌, arith, ⊎_elim}
use Rattle.std.proofs.lemmas.Bool.{cases_lt, false≢true}
use Rattle.lsa_codec.specs.Prefix.{IsNet, Net, masked}
use Rattle.lsa_codec.specs.declared.address.Addr.{Addr}
use Rattle.forwarding.specs.Matches.{has_net}
use Rattle.loop_report.specs.Atoms.{IsEmptyAtom, IsInAtom, IsLonger, NoneLonger}
use Rattle.loop_report.specs.steps.Ends.{end_of}
use Rattle.loop_report.proofs.Covering.{covers_between, covers_itself, covers_more}

module _ (nets : List Net) (net : Net) where
  -- no address of the atom is less than this one, which the prefix covers
  pub record IsReached (address : Addr) : Type 0 where
    pub number : address.0 < 2 ^ 32
    pub covers : masked address net.len ≡ net
    pub below : (other : Addr) → other.0 < address.0 → ¬ IsInAtom nets net other

  pub reached_first : net.addr.0 < 2 ^ 32 → IsNet net → IsReached net.addr
  reached_first number is = record {
    number = number;
    covers = covers_itself net is;
    below = λ other lt in_atom. absurd (omega (arith, (covers_between other net in_atom.number in_atom.covers).0));
  }

  module _ (address : Addr) (reached : IsReached address) where
    pub reached_last : net.len ≤ 32 → NoneLonger nets net.len address → IsInAtom nets net address
    reached_last short none = record { number = reached.number; short = short; covers = reached.covers; longest = none }

    module _ (longer : Net) (is : IsLonger nets net.len address longer) where
      -- what the longer prefix covers is not in the atom
      past : (other : Addr) → other.0 < end_of longer → ¬ IsInAtom nets net other
      past other lt in_atom =
          ⊎_elim (λ less. reached.below other less in_atom)
          (λ more. (let from = covers_between address longer reached.number is.covers in
          let covered = covers_more address other longer reached.number in_atom.number is.covers (omega (arith, from.0)) lt in
          false≢true (sym (in_atom.longest longer.len is.more is.short) ∙ ap (has_net nets) covered ∙ is.among))) (cases_lt other.0 address.0)

      pub onward : address.0 < end_of longer
      onward = (covers_between address longer reached.number is.covers).1

      -- the address after the longer prefix
      pub reached_next : (next : Addr) → next.0 < 2 ^ 32 → next.0 ≡ end_of longer → next.0 < end_of net → IsReached next
      reached_next next number at lt =
          let from = covers_between address net reached.number reached.covers in
          record {
            number = number;
            covers = covers_more address next net reached.number number reached.covers (omega (arith, from.0, onward)) lt;
            below = λ other less. past other (omega arith);
          }

      -- no address of the prefix is after it
      pub none_after : ((other : Addr) → other.0 < 2 ^ 32 → other.0 < end_of net → other.0 < end_of longer) → IsEmptyAtom nets net
      none_after all other in_atom =
          past other (all other in_atom.number (covers_between other net in_atom.number in_atom.covers).1) in_atom
