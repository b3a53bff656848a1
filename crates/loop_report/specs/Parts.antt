-- Answers that are put together of one part for each atom, in order of prefix.
use Rattle.std.specs.Prelude.{◌≡◌, List, [], ◌∷◌, ◌++◌}
use Rattle.lsa_codec.specs.Prefix.{Net}
use Rattle.lsa_codec.specs.declared.address.Addr.{Addr}
use Rattle.lsdb.specs.Lists.{Lists}
use Rattle.forwarding.specs.Graphs.{StepValue, graph_of}
use Rattle.loop_report.specs.Atoms.{IsEmptyAtom, IsInAtom, nets_in_either}

-- a list is put together of parts, one for each of some things, in their order
module _ {X Y : Type 0} (IsPart : X → List Y → Type 0) where
  abbrev pub AreParts : List X → List Y → Type 0
  AreParts [] ys = ys ≡ []
  AreParts (x ∷ xs) ys = (part : List Y) × (rest : List Y) × IsPart x part × AreParts xs rest × (ys ≡ part ++ rest)

-- what is found for a prefix by two forwarding graphs of an address
module _ {Y : Type 0} (Found : Net → List StepValue → List StepValue → List Y → Type 0) (was is : Lists) where
  -- the part of a prefix: what is found at each address of its atom alike; nothing where longer prefixes cover it
  pub record IsAtAtom (net : Net) (part : List Y) : Type 0 where
    pub found : (address : Addr) → IsInAtom (nets_in_either was is) net address → Found net (graph_of was address) (graph_of is address) part
    pub none : IsEmptyAtom (nets_in_either was is) net → part ≡ []

  -- what is found at all addresses that an entry covers, in order of prefix
  abbrev pub AreAtAtoms : List Y → Type 0
  AreAtAtoms found = AreParts IsAtAtom (nets_in_either was is) found
