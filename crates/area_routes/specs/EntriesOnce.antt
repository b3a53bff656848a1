-- All router entries of a router, each once (RFC 2328, 16.2): a law over `inter_of`.
use Rattle.std.specs.Prelude.{◌≡◌, List, AllPairs}
use Rattle.area_routes.specs.Values.{EntryValue}

-- entries of one router, through one area, of one kind
pub record IsSameWay (a b : EntryValue) : Type 0 where
  pub router : a.router ≡ b.router
  pub area : a.area ≡ b.area
  pub kind : a.kind ≡ b.kind

-- for each router, area and kind there is at most one entry
abbrev pub StandOnce : List EntryValue → Type 0
StandOnce entries = AllPairs (λ a b. ¬ IsSameWay a b) entries
