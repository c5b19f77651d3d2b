-- How the rules' own words for packets agree with the reader. Assumes nothing.
use Rattle.std.proofs.Common.{◌≡◌, ℕ, ◌-◌, ◌<◌, Bool, true, false, cond, List, length, set, Some, None, Option, refl, ap, ◌∙◌, arith}
use Rattle.std.proofs.lemmas.List.{get_or-set_other, length-set}
use Rattle.octets.specs.Wire.{placed}
use Rattle.times.specs.Timestamps.{newer}
use Rattle.vectors.specs.Vectors.{short_vector_octets}
use Rattle.vectors.specs.declared.short.ShortPositionVector.{ShortPositionVector}
use Rattle.packets.specs.Common.{octet}
use Rattle.location_table.specs.Stations.{Station}
use Rattle.rules.specs.Joins.{RulesAgree}
use Rattle.rules.specs.Packets.{destination_of, hops_of, lowered, redirected, passed_on, octet_for}
use Rattle.rules.specs.Rules.{reader_fault}
use Rattle.rules.proofs.Hops.{readable, read_header, alike_set, vector-alike, number-alike, target_kept, hops_kept, redirected_before, passed-on-hops, passed-on-life}
use Rattle.rules.proofs.Lives.{octet_best}

others : (known : Option Station) (o : List ℕ) (i : ℕ) → reader_fault o ≡ None → i < 40 → i < length o → (i ≡ 3 → ⊥) → octet i (passed_on known o) ≡ octet i o
unfolding passed_on
others known o i e l m d =
    let n = length-set o 3 (hops_of o - 1) in
    redirected_before i known (destination_of o) (lowered o) (omega arith) (omega (arith, n)) ∙ get_or-set_other o 3 i (hops_of o - 1) 0 d

nowhere : (known : Option Station) (o : List ℕ) → redirected known None o ≡ o
nowhere None o = refl
nowhere (Some x) o = refl

plain : (known : Option Station) (o : List ℕ) → destination_of o ≡ None → passed_on known o ≡ set o 3 (hops_of o - 1)
unfolding passed_on
plain known o e = ap (λ (d : Option ShortPositionVector). redirected known d (lowered o)) e ∙ nowhere known (lowered o)

redirects : (x : Station) (v : ShortPositionVector) (o : List ℕ) (b : Bool) → destination_of o ≡ Some v → newer x.vector.timestamp.millis v.timestamp.millis ≡ b
    → passed_on (Some x) o ≡ cond b (placed 40 (short_vector_octets x.vector) (lowered o)) (lowered o)
unfolding passed_on
redirects x v o b e n =
    ap (λ (d : Option ShortPositionVector). redirected (Some x) d (lowered o)) e ∙ ap (λ k. cond k (placed 40 (short_vector_octets x.vector) (lowered o)) (lowered o)) n

unknown : (o : List ℕ) → passed_on None o ≡ lowered o
unfolding passed_on
unknown o = refl

pub agree : RulesAgree
agree = record {
  header = read_header;
  lower = λ known o e. passed-on-hops known o (readable o e);
  lifetime = λ known o e. passed-on-life known o (readable o e);
  others = others;
  plain = plain;
  redirected = λ x v o e n. redirects x v o true e n;
  not_redirected = λ x v o e n. redirects x v o false e n;
  unknown = unknown;
  best = octet_best;
  source_kept = λ n o. vector-alike o (set o 2 (octet_for n)) (alike_set 2 (octet_for n) o (omega arith) (λ e. omega arith));
  number_kept = λ n o. number-alike o (set o 2 (octet_for n)) (alike_set 2 (octet_for n) o (omega arith) (λ e. omega arith));
  target_kept = λ n o. target_kept (octet_for n) o;
  hops_kept = λ n o. hops_kept (octet_for n) o;
}
