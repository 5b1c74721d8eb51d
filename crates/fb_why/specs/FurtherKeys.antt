-- Keys that a table of a deployment may not have (this project's own).
use Rattle.std.specs.Prelude.{ℕ, Bool, if◌then◌else◌, List, [], ◌∷◌, codes, Option, Some, None}
use Rattle.std.specs.List.{list_any}
use Rattle.std.specs.Str.{bytes_eq}
use Rattle.toml.specs.Data.{Members, no_members, member, as_array, as_table, get_item, get_member}
use Rattle.fb_read.specs.declared.token.Span.{Span}
use Rattle.fb_inputs.specs.Deployments.{document}
use Rattle.fb_inputs.specs.declared.deploy_location.TableLocation.{TableLocation}
use Rattle.fb_inputs.specs.declared.deploy_location.TableLocation.TheVariants as table
use Rattle.fb_deploy_positions.specs.Entries.{named_key_span}
use Rattle.fb_deploy_positions.specs.Values.{Text, ◌>>=◌}

-- the keys that a table may have
abbrev pub known_keys : TableLocation → List Text
known_keys table.Top = codes "resource" ∷ codes "link" ∷ []
known_keys (table.Resource i) = codes "device" ∷ codes "name" ∷ codes "instances" ∷ []
known_keys (table.Link i) = codes "from" ∷ codes "to" ∷ codes "latency" ∷ codes "latencies" ∷ []

-- the name is one of these
abbrev pub is_among : (known : List Text) → Text → Bool
is_among known name = list_any (λ k. bytes_eq k name) known

-- the first key of a table that is none of these
unfoldable pub first_further : (known : List Text) → Members → Option Text
first_further known no_members = None
first_further known (member name d rest) = if is_among known name then first_further known rest else Some name

-- the table at an index of the array at a key
abbrev pub item_in : Members → (key : Text) → ℕ → Option Members
item_in keys key index = ((get_member key keys >>= as_array) >>= get_item index) >>= as_table

abbrev pub table_in : Members → TableLocation → Option Members
table_in keys table.Top = Some keys
table_in keys (table.Resource i) = item_in keys (codes "resource") i
table_in keys (table.Link i) = item_in keys (codes "link") i

-- the first key of a table in a document that the table may not have
abbrev pub further_in : Members → TableLocation → Option Text
further_in keys t = table_in keys t >>= first_further (known_keys t)

-- the bytes of that key in a text
abbrev pub span_in : (text : Text) → Members → TableLocation → Option Span
span_in text keys t = further_in keys t >>= named_key_span text t

-- the bytes of the first key of a table that it may not have, in the document that the text is
abbrev pub further_span : Text → TableLocation → Option Span
further_span text t = document text >>= (λ keys. span_in text keys t)
