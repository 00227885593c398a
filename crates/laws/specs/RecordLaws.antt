-- The test of two records tells them apart.
use Rattle.std.specs.Prelude.{ℕ, ◌≡◌, refl, Bool, true, false}
use Rattle.std.proofs.Common.{ap, ◌∙◌}
use Rattle.std.proofs.Math.Option.{Option, none, some}
use Rattle.lists.specs.Tests.{both, same}
use Rattle.lists.specs.TestLaws.{clash, same_true, same_refl}
use Rattle.spec.specs.Records.{Payload, Record, same_payload, same_record}

pub both_left : (a b : Bool) → both a b ≡ true → a ≡ true
both_left true b e = refl
both_left false b e = clash e refl

pub both_right : (a b : Bool) → both a b ≡ true → b ≡ true
both_right true b e = e
both_right false b e = clash e refl

same_payload_true : (p q : Payload) → same_payload p q ≡ true → p ≡ q
unfolding same_payload
same_payload_true p q e =
    ap (λ (n : ℕ). record { value = n; owner = p.owner }) (same_true p.value q.value (both_left _ (same p.owner q.owner) e))
    ∙ ap (λ (n : ℕ). record { value = q.value; owner = n }) (same_true p.owner q.owner (both_right (same p.value q.value) _ e))

same_payload_refl : (p : Payload) → same_payload p p ≡ true
unfolding same_payload
same_payload_refl p = ap (λ (b : Bool). both b (same p.owner p.owner)) (same_refl p.value) ∙ same_refl p.owner

pub same_record_true : (r s : Option Record) → same_record r s ≡ true → r ≡ s
unfolding same_record
same_record_true none none e = refl
same_record_true none (some s) e = clash e refl
same_record_true (some r) none e = clash e refl
same_record_true (some r) (some s) e =
    let p : r.payload ≡ s.payload =
    same_payload_true r.payload s.payload (both_left (same_payload r.payload s.payload) (same r.commit s.commit) e) in
    let c : r.commit ≡ s.commit =
    same_true r.commit s.commit (both_right (same_payload r.payload s.payload) (same r.commit s.commit) e) in
    λ i. some (record { payload = p i; commit = c i })

pub same_record_refl : (r : Option Record) → same_record r r ≡ true
unfolding same_record
same_record_refl none = refl
same_record_refl (some r) = ap (λ (b : Bool). both b (same r.commit r.commit)) (same_payload_refl r.payload) ∙ same_refl r.commit
