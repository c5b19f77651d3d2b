-- Positions and stations, as they are written. Assumes nothing.
use Rattle.std.specs.Prelude.{ℕ, Bool, List, replicate, Option}
use Rattle.std.specs.Option.{option_map}
use Rattle.fields.specs.declared.address.Address.{Address}
use Rattle.fields.specs.declared.position.Position.{Position}
use Rattle.hex_digits.specs.Hex.{number_of}
use Rattle.location_table.specs.declared.entry.Entry.{Entry}
use Rattle.request.specs.Numbers.{and_then, signed_in, flag_in}
use Rattle.situation.specs.Halves.{cut_at}

-- a latitude, a comma and a longitude
abbrev pub position_in : List ℕ → Option Position
position_in text =
    and_then (cut_at 44 text) (λ p.
    and_then (signed_in 31 p.0) (λ north.
    option_map (λ east. record { latitude = north; longitude = east }) (signed_in 31 p.1)))

-- nothing is told of its time
abbrev pub station_from : Address → Position → Bool → Entry
station_from address position neighbour =
    record { vector = record { address = address; timestamp = record { millis = 0 }; position = position }; heard = 0; neighbour = neighbour; numbers = record { values = replicate 8 0; count = 0 } }

-- an address, a latitude, a longitude and a mark, with commas between
abbrev pub station_in : List ℕ → Option Entry
station_in text =
    and_then (cut_at 44 text) (λ p.
    and_then (cut_at 44 p.1) (λ q.
    and_then (cut_at 44 q.1) (λ r.
    and_then (number_of 16 p.0) (λ address.
    and_then (signed_in 31 q.0) (λ north.
    and_then (signed_in 31 r.0) (λ east.
    option_map (station_from (record { value = address }) (record { latitude = north; longitude = east })) (flag_in r.1)))))))
