-- A next hop: its order and its text.
use Rattle.std.specs.Prelude.{◌≡◌, ℕ, List, ◌++◌, AllPairs, codes}
use Rattle.std.specs.Ordering.{ordering_then, nat_cmp}
use Rattle.std.specs.declared.cmp.Ordering.{Ordering}
use Rattle.std.specs.declared.cmp.Ordering.TheVariants.{Less}
use Rattle.lsa_codec.specs.Spelling.{address_text}
use Rattle.lsa_codec.specs.declared.address.Addr.{Addr}
use Rattle.next_hops.specs.declared.hop.Hop.{Hop}
use Rattle.next_hops.specs.declared.hop.Hop.TheVariants.{Connected, Link, Attached, Gateway}

-- the index of a hop's kind
abbrev pub kind_of : Hop → ℕ
kind_of Connected = 0
kind_of (Link d) = 1
kind_of (Attached d) = 2
kind_of (Gateway d a) = 3

-- the interface as a number, and 0 where there is none
abbrev pub interface_of : Hop → ℕ
interface_of Connected = 0
interface_of (Link d) = d.0
interface_of (Attached d) = d.0
interface_of (Gateway d a) = d.0

-- the gateway's address as a number, and 0 where there is none
abbrev pub gateway_of : Hop → ℕ
gateway_of Connected = 0
gateway_of (Link d) = 0
gateway_of (Attached d) = 0
gateway_of (Gateway d a) = a.0

-- by kind, then by addresses as numbers
abbrev pub hop_cmp : Hop → Hop → Ordering
hop_cmp g h = ordering_then (nat_cmp (kind_of g) (kind_of h)) (ordering_then (nat_cmp (interface_of g) (interface_of h)) (nat_cmp (gateway_of g) (gateway_of h)))

-- in rising order, without repeats
abbrev pub IsSortedHops : List Hop → Type 0
IsSortedHops hops = AllPairs (λ g h. hop_cmp g h ≡ Less) hops

-- the hop where the path goes on to the address a: on a network of the router's own, that is the
-- gateway
abbrev pub extended : Hop → Addr → Hop
extended Connected a = Connected
extended (Link d) a = Link d
extended (Attached d) a = Gateway d a
extended (Gateway d b) a = Gateway d b

-- how a hop is written: its kind and its addresses, joined by colons
abbrev pub hop_text : Hop → List ℕ
hop_text Connected = codes "connected"
hop_text (Link d) = codes "link:" ++ address_text d.0
hop_text (Attached d) = codes "attached:" ++ address_text d.0
hop_text (Gateway d a) = codes "gateway:" ++ address_text d.0 ++ codes ":" ++ address_text a.0
