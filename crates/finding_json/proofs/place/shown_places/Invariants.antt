use Rattle.std.proofs.Common.{◌≡◌, map, take}
use Rattle.finding_json.specs.Findings.{place_json}
use Rattle.finding_json.proofs.place.shown_places.Given as goal

-- the places so far
abbrev pub invariant-loop-place : goal.invariant-loop-place
invariant-loop-place g l = map (λ place. place_json place.0.now) l.shown.items ≡ map place_json (take l.place-index l.places)
