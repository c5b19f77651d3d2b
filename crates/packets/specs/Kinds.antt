-- The table of kinds. Assumes nothing.
use Rattle.std.specs.Prelude.{◌≡◌, ◌≢◌, ℕ, Bool, true, false, cond, List, Some, None, Option, Ok, Err, Result, codes, ◌==◌}
use Rattle.std.specs.Option.{ok_or}
use Rattle.packets.specs.declared.kind.UnknownKind.{UnknownKind}
use Rattle.packets.specs.declared.kind.UnknownName.{UnknownName}
use Rattle.packets.specs.declared.kind.Kind.{Kind}
use Rattle.packets.specs.declared.kind.Kind.TheVariants.{Beacon, Unicast, Anycast, Broadcast, SingleHop, MultiHop}

-- type and subtype, four bits each
abbrev pub kind_octet : Kind → ℕ
kind_octet Beacon = 16
kind_octet Unicast = 32
kind_octet Anycast = 48
kind_octet Broadcast = 64
kind_octet SingleHop = 80
kind_octet MultiHop = 81

-- the kind of a type and subtype
abbrev pub kind_of : ℕ → Option Kind
kind_of b =
    cond (b == 16) (Some Beacon) (cond (b == 32) (Some Unicast) (cond (b == 48) (Some Anycast) (cond (b == 64) (Some Broadcast)
    (cond (b == 80) (Some SingleHop) (cond (b == 81) (Some MultiHop) None)))))

-- the same, with the octet where there is none
abbrev pub kind_from : ℕ → Result Kind UnknownKind
kind_from b = ok_or (kind_of b) (record { octet = b })

-- what a kind is called
abbrev pub kind_name : Kind → List ℕ
kind_name Beacon = codes "beacon"
kind_name Unicast = codes "unicast"
kind_name Anycast = codes "anycast"
kind_name Broadcast = codes "broadcast"
kind_name SingleHop = codes "single-hop"
kind_name MultiHop = codes "multi-hop"

-- the answer to a name: the kind that has it, or that no kind has
abbrev pub KindNamed : List ℕ → Result Kind UnknownName → Type 0
KindNamed name (Ok kind) = name ≡ kind_name kind
KindNamed name (Err e) = (kind : Kind) → name ≢ kind_name kind

-- the octets before the payload
abbrev pub headers_of : Kind → ℕ
headers_of Beacon = 36
headers_of Unicast = 60
headers_of Anycast = 56
headers_of Broadcast = 56
headers_of SingleHop = 40
headers_of MultiHop = 40

-- the most octets of payload
abbrev pub payload_limit : Kind → ℕ
payload_limit Beacon = 0
payload_limit Unicast = 1398
payload_limit Anycast = 1398
payload_limit Broadcast = 1398
payload_limit SingleHop = 1398
payload_limit MultiHop = 1398

-- the kinds that go one hop
abbrev pub one_hop : Kind → Bool
one_hop Beacon = true
one_hop Unicast = false
one_hop Anycast = false
one_hop Broadcast = false
one_hop SingleHop = true
one_hop MultiHop = false
