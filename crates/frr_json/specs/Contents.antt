-- What a document contains that a router prints.
use Rattle.std.specs.Prelude.{◌≡◌, ℕ, true, List, Some, option_map}
use Rattle.std.specs.Str.{IsUtf8}
use Rattle.findings.specs.Contents.{ContentLists, content_of}
use Rattle.frr_json.specs.ParsedDocuments.{parsed_in, has_database}
use Rattle.json.specs.Json.{document}

-- the file is a document in JSON that has a database, and contains this
pub record HasContent {A : Type 0} (bytes : List ℕ) (content : ContentLists A) : Type 0 where
  pub spelled : IsUtf8 bytes
  pub database : option_map has_database (document bytes) ≡ Some true
  pub whole : option_map (λ json. content_of (parsed_in json)) (document bytes) ≡ Some content
