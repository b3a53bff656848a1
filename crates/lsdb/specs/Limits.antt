-- How much a database holds.
use Rattle.std.specs.Prelude.{ℕ}

-- the most areas
abbrev pub most_areas : ℕ
most_areas = 64

-- the most LSAs of an area
abbrev pub most_lsas_of_area : ℕ
most_lsas_of_area = 8192

-- the most LSAs of AS scope
abbrev pub most_lsas_of_as : ℕ
most_lsas_of_as = 65535

-- the most bytes of a dump
abbrev pub longest_dump : ℕ
longest_dump = 16777216

-- the most bytes of the dump of a session
abbrev pub longest_session : ℕ
longest_session = 17825792
