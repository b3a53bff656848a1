-- How the links of a router-LSA differ from those that it had (RFC 2328, A.4.2).
use Rattle.std.specs.Prelude.{ℕ, ◌==◌, ◌&&◌, Bool, if◌then◌else◌, List, [], ◌∷◌, ◌++◌, map, Option, None, Some}
use Rattle.std.specs.List.{enumerate_from, find}
use Rattle.lsa_codec.specs.declared.link.Link.{Link}
use Rattle.lsa_codec.specs.declared.link.LinkKind.{LinkKind}
use Rattle.lsa_codec.specs.declared.link.LinkKind.TheVariants.{PointToPoint, Transit, Stub, Virtual, Other}
use Rattle.lsa_codec.specs.Links.{links_of}
use Rattle.lsa_changes.specs.declared.link.NumberedLink.{NumberedLink}
use Rattle.lsa_changes.specs.declared.link.LinkChange.{LinkChange}
use Rattle.lsa_changes.specs.declared.link.LinkChange.TheVariants.{Cost, New, Gone}

-- ---- links

-- the links of a router-LSA with their numbers, counted from 1
abbrev pub numbered : List Link → List NumberedLink
numbered links = map (λ one. record { number = one.0; link = one.1 }) (enumerate_from 1 links)

abbrev pub numbered_links : List ℕ → List NumberedLink
numbered_links lsa = numbered (links_of lsa)

-- the type of a link
abbrev pub type_of_link : LinkKind → ℕ
type_of_link PointToPoint = 1
type_of_link Transit = 2
type_of_link Stub = 3
type_of_link Virtual = 4
type_of_link (Other code) = code

-- two links have the same type, Link ID and Link Data
abbrev pub is_same_link : Link → Link → Bool
is_same_link a b = (type_of_link a.kind == type_of_link b.kind) && (a.id.0 == b.id.0) && (a.link_data.0 == b.link_data.0)

abbrev pub is_link : Link → NumberedLink → Bool
is_link link other = is_same_link link other.link

-- ---- pairs

-- the others, where the first that passes a test is taken away
abbrev pub without_first : {X : Type 0} → (X → Bool) → List X → List X
without_first test [] = []
without_first test (x ∷ xs) = if test x then xs else x ∷ without_first test xs

-- a link of now, where this is the one before
abbrev pub change_from : NumberedLink → Option NumberedLink → List LinkChange
change_from link None = New link ∷ []
change_from link (Some before) = if before.link.metric == link.link.metric then [] else Cost link before.link.metric ∷ []

-- links of now, in order: each is the first of those before that is the same link and that no link of now is yet; those before that are
-- left at the end are gone
abbrev pub link_changes : List NumberedLink → List NumberedLink → List LinkChange
link_changes before [] = map Gone before
link_changes before (link ∷ links) =
    change_from link (find (is_link link.link) before) ++ link_changes (without_first (is_link link.link) before) links
