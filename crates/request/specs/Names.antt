-- The names of kinds and fields. Assumes nothing.
use Rattle.std.specs.Prelude.{◌≡◌, ℕ, List, Ok, Err, codes, Result, ◌≢◌}
use Rattle.request.specs.declared.fault.LineFault.{LineFault}
use Rattle.request.specs.declared.fault.LineFault.TheVariants.{NotUnderstood}
use Rattle.request.specs.declared.names.AreaField.{AreaField}
use Rattle.request.specs.declared.names.AreaField.TheVariants as areas
use Rattle.request.specs.declared.names.CommonField.{CommonField}
use Rattle.request.specs.declared.names.CommonField.TheVariants as commons
use Rattle.request.specs.declared.names.Field.{Field}
use Rattle.request.specs.declared.names.Field.TheVariants as fields
use Rattle.request.specs.declared.names.MotionField.{MotionField}
use Rattle.request.specs.declared.names.MotionField.TheVariants as motions
use Rattle.request.specs.declared.names.VectorField.{VectorField}
use Rattle.request.specs.declared.names.VectorField.TheVariants as vectors

-- the answer is what has this name, or that it is not understood if nothing has it
abbrev pub Named : {X : Type 0} → (X → List ℕ) → List ℕ → Result X LineFault → Type 0
Named name_of name (Ok x) = name ≡ name_of x
Named {X} name_of name (Err fault) = (fault ≡ NotUnderstood) × ((x : X) → name ≢ name_of x)

abbrev pub common_name : CommonField → List ℕ
common_name commons.Lifetime = codes "lifetime"
common_name commons.RemainingHopLimit = codes "rhl"
common_name commons.MaximumHopLimit = codes "mhl"
common_name commons.TrafficClass = codes "class"
common_name commons.UpperProtocol = codes "upper"
common_name commons.Mobile = codes "mobile"

abbrev pub vector_name : VectorField → List ℕ
vector_name vectors.Address = codes "address"
vector_name vectors.Timestamp = codes "timestamp"
vector_name vectors.Latitude = codes "latitude"
vector_name vectors.Longitude = codes "longitude"

abbrev pub destination_name : VectorField → List ℕ
destination_name vectors.Address = codes "to-address"
destination_name vectors.Timestamp = codes "to-timestamp"
destination_name vectors.Latitude = codes "to-latitude"
destination_name vectors.Longitude = codes "to-longitude"

abbrev pub motion_name : MotionField → List ℕ
motion_name motions.Accurate = codes "accurate"
motion_name motions.Speed = codes "speed"
motion_name motions.Heading = codes "heading"

abbrev pub area_name : AreaField → List ℕ
area_name areas.Latitude = codes "centre-latitude"
area_name areas.Longitude = codes "centre-longitude"
area_name areas.Radius = codes "radius"
area_name areas.DistanceB = codes "b"
area_name areas.Angle = codes "angle"

abbrev pub field_name : Field → List ℕ
field_name (fields.Common f) = common_name f
field_name (fields.Source f) = vector_name f
field_name (fields.Motion f) = motion_name f
field_name (fields.Destination f) = destination_name f
field_name (fields.Area f) = area_name f
field_name fields.Number = codes "number"
field_name fields.Media = codes "media"
