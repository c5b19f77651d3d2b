-- The fields, and one of them set. Assumes nothing.
use Rattle.std.specs.Prelude.{ℕ, false, List, pos, Some, None, Option}
use Rattle.std.specs.Option.{option_map}
use Rattle.fields.specs.declared.position.Position.{Position}
use Rattle.forwarding.specs.declared.course.Course.{Course}
use Rattle.request.specs.Numbers.{unsigned_in, flag_in}
use Rattle.situation.specs.Values.{position_in}
use Rattle.situation.specs.declared.names.Field.{Field}
use Rattle.situation.specs.declared.names.Field.TheVariants as fields
use Rattle.situation.specs.declared.told.Fields.{Fields}

abbrev pub origin : Position
origin = record { latitude = pos 0; longitude = pos 0 }

-- every field left out
abbrev pub no_fields : Fields
no_fields =
    record { scale = 1113; course = record { ours = origin; sender = None; target = origin }; radius = 0; held = false; room = 4096; times = 1 }

-- the fields with another course
abbrev pub on_course : Fields → Course → Fields
on_course a c = record { scale = a.scale; course = c; radius = a.radius; held = a.held; room = a.room; times = a.times }

-- one field set to what a text says
abbrev pub fields_with : Field → List ℕ → Fields → Option Fields
fields_with fields.Scale text a = option_map (λ n. record { scale = n; course = a.course; radius = a.radius; held = a.held; room = a.room; times = a.times }) (unsigned_in 16 text)
fields_with fields.Ours text a = option_map (λ p. on_course a (record { ours = p; sender = a.course.sender; target = a.course.target })) (position_in text)
fields_with fields.Target text a = option_map (λ p. on_course a (record { ours = a.course.ours; sender = a.course.sender; target = p })) (position_in text)
fields_with fields.Sender text a = option_map (λ p. on_course a (record { ours = a.course.ours; sender = Some p; target = a.course.target })) (position_in text)
fields_with fields.Radius text a = option_map (λ n. record { scale = a.scale; course = a.course; radius = n; held = a.held; room = a.room; times = a.times }) (unsigned_in 16 text)
fields_with fields.Held text a = option_map (λ b. record { scale = a.scale; course = a.course; radius = a.radius; held = b; room = a.room; times = a.times }) (flag_in text)
fields_with fields.Room text a = option_map (λ n. record { scale = a.scale; course = a.course; radius = a.radius; held = a.held; room = n; times = a.times }) (unsigned_in 16 text)
fields_with fields.Times text a = option_map (λ n. record { scale = a.scale; course = a.course; radius = a.radius; held = a.held; room = a.room; times = n }) (unsigned_in 8 text)
