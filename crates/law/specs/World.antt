-- A call as the road saw it, and the calls that came. Assumes nothing.
use Rattle.std.specs.Prelude.{ℕ, List}
use Rattle.link.specs.Frames.{Frame}
use Rattle.rules.specs.World.{Around, Call, Outcome}
pub use Rattle.std.specs.Option.{is_some, option_or as or_else, option_map as on_some}
pub use Rattle.fields.specs.declared.address.Address.{Address}
pub use Rattle.fields.specs.declared.position.Position.{Position}
pub use Rattle.vectors.specs.declared.long.LongPositionVector.{LongPositionVector}
pub use Rattle.vectors.specs.declared.short.ShortPositionVector.{ShortPositionVector}
pub use Rattle.link.specs.Frames.{Frame, frame}
pub use Rattle.link.specs.declared.address.LinkAddress.{LinkAddress}
pub use Rattle.policy.specs.declared.choice.Choice.{Choice}
pub use Rattle.policy.specs.declared.choice.Choice.TheVariants.{Neighbour as nearest, Wait as wait, NoProgress as no-progress, Nobody as nobody}
pub use Rattle.location_table.specs.Stations.{Station}
pub use Rattle.rules.specs.World.{Waiter, State, Around, Meant, Call, place, receive, send, serve, Outcome, accepted, refused, Start}
pub use Rattle.rules.specs.declared.answer.Answer.{Answer}
pub use Rattle.rules.specs.declared.answer.Delivery.{Delivery}
pub use Rattle.rules.specs.declared.fault.RouterFault.{RouterFault as Fault}
pub use Rattle.rules.specs.declared.hold.Hold.{Hold}
pub use Rattle.rules.specs.declared.hold.Hold.TheVariants.{Millis as for-ms, Neighbour as for-neighbour}
pub use Rattle.rules.specs.declared.placing.Placing.{Placing}
pub use Rattle.rules.specs.declared.request.Request.{Request}
pub use Rattle.rules.specs.declared.verdict.Verdict.{Verdict}

-- one call as the road saw it: its time, what came in, what it met, the frames on its link before and after, and what came
-- of it
pub record Event : Type 0 where
  pub time : ℕ
  pub call : Call
  pub around : Around
  pub before : List Frame
  pub after : List Frame
  pub outcome : Outcome

-- the calls that came, refused ones too, the newest first
abbrev pub History : Type 0
History = List Event
