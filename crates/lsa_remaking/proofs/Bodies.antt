-- How long the bytes of rebuilt LSAs are, and how many links they have.
use Rattle.std.proofs.Common.{◌≤◌, ℕ, Bool, ◌++◌, List, length, take, drop, arith}
use Rattle.std.specs.List.{flat_map}
use Rattle.std.proofs.lemmas.List.{length-append, length-take}
use Rattle.std.proofs.lemmas.List.Sums.{length-filter, count_by-le-length}
use Rattle.lsa_codec.specs.declared.address.Addr.{Addr}
use Rattle.lsa_codec.specs.declared.address.RouterId.{RouterId}
use Rattle.lsa_codec.specs.Fields.{byte_at}
use Rattle.lsa_codec.specs.Originating.{new_header}
use Rattle.lsa_remaking.specs.declared.link_change.ChangedLink.{ChangedLink}
use Rattle.lsa_remaking.specs.Networks.{routers_text, routers_body, successor_body}
use Rattle.lsa_remaking.specs.Relinking.{is_left, changed_text, count_left, changed_body}

pub long_body : (links : List ChangedLink) (lsa : List ℕ) → 24 ≤ length lsa → 24 ≤ length (changed_body links lsa)
long_body links lsa long = omega (arith, length-append (take 24 lsa) (flat_map (changed_text lsa) links), length-take 24 lsa)

pub few_left : (links : List ChangedLink) → count_left links ≤ length links
few_left links =
    let left : ChangedLink → Bool = λ (changed : ChangedLink). is_left changed.change in
    omega (arith, length-filter left links, count_by-le-length left links)

pub long_network : (routers : List RouterId) (lsa : List ℕ) → 24 ≤ length lsa → 24 ≤ length (routers_body routers lsa)
long_network routers lsa long = omega (arith, length-append (take 24 lsa) (routers_text routers), length-take 24 lsa)

pub long_successor : (router : RouterId) (address : Addr) (routers : List RouterId) (lsa : List ℕ)
    → 20 ≤ length (successor_body router address routers lsa)
long_successor router address routers lsa =
    let header : List ℕ = new_header (byte_at 2 lsa) 2 address router 0 in
    omega (arith, length-append (header ++ take 4 (drop 20 lsa)) (routers_text routers), length-append header (take 4 (drop 20 lsa)))
