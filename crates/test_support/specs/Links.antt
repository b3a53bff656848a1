-- The links of router-LSAs (RFC 2328, A.4.2).
use Rattle.std.specs.Prelude.{ℕ, List, ◌∷◌, ◌++◌}
use Rattle.std.specs.Int.{w16, w32, to_be_bytes}
use Rattle.test_support.specs.declared.link.RouterLink.{RouterLink}

-- a link of this type, with its Link ID, Link Data and metric
abbrev pub link_of : ℕ → ℕ → ℕ → ℕ → RouterLink
link_of kind id link_data metric = record { kind = kind; id = id; «data» = link_data; metric = metric }

-- Link ID, Link Data, type, no TOS metrics, metric
abbrev pub link_bytes : RouterLink → List ℕ
link_bytes link = to_be_bytes w32 link.id ++ to_be_bytes w32 link.data ++ link.kind ∷ 0 ∷ to_be_bytes w16 link.metric
