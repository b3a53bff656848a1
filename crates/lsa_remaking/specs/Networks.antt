-- Network-LSAs with other routers, or of another Designated Router (RFC 2328, 12.4.2, A.4.3).
use Rattle.std.specs.Prelude.{ℕ, List, ◌++◌, take, drop, Result}
use Rattle.std.specs.List.{flat_map}
use Rattle.byteorder.specs.Endian.{big_bytes}
use Rattle.lsa_codec.specs.declared.address.Addr.{Addr}
use Rattle.lsa_codec.specs.declared.address.RouterId.{RouterId}
use Rattle.lsa_codec.specs.LsTypes.{network_lsa}
use Rattle.lsa_codec.specs.Fields.{byte_at}
use Rattle.lsa_codec.specs.Originating.{new_header}
use Rattle.lsa_remaking.specs.declared.fault.RemakeFault.{RemakeFault}
use Rattle.lsa_remaking.specs.Making.{made, remeasured}

-- the bytes of Router IDs
abbrev pub routers_text : List RouterId → List ℕ
routers_text routers = flat_map (λ (router : RouterId). big_bytes 4 router.0) routers

-- the bytes of a network-LSA with these routers attached in place of its own
abbrev pub routers_body : List RouterId → List ℕ → List ℕ
routers_body routers lsa = take 24 lsa ++ routers_text routers

-- it with length and checksum set again, or why there is none
abbrev pub with_routers : List RouterId → List ℕ → List ℕ
with_routers routers lsa = remeasured (routers_body routers lsa)

abbrev pub with_routers_made : List RouterId → List ℕ → Result (List ℕ) RemakeFault
with_routers_made routers lsa = made (routers_body routers lsa)

-- the bytes of the network-LSA that another Designated Router, which has this address on the network, originates in place of one:
-- a new one, with the Options and the mask of the old one
abbrev pub successor_body : RouterId → Addr → List RouterId → List ℕ → List ℕ
successor_body router address routers lsa =
    (new_header (byte_at 2 lsa) network_lsa address router 0 ++ take 4 (drop 20 lsa)) ++ routers_text routers

-- it with length and checksum set again, or why there is none
abbrev pub succeeding : RouterId → Addr → List RouterId → List ℕ → List ℕ
succeeding router address routers lsa = remeasured (successor_body router address routers lsa)

abbrev pub successor_made : RouterId → Addr → List RouterId → List ℕ → Result (List ℕ) RemakeFault
successor_made router address routers lsa = made (successor_body router address routers lsa)
