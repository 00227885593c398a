-- Bytes put at a place, and the bytes of a number as std makes them.
use borrow.Rule.Slice.PartMut.{put_mid}
use Rattle.std.proofs.Common.{◌≡◌, refl, ℕ, ◌+◌, ◌-◌, ◌/◌, ◌≤◌, List, length, take, drop, arith, sym, ◌∙◌, append_assoc}
use Rattle.std.specs.Int.{to_le_bytes, w16, w32, w64}
use Rattle.std.proofs.lemmas.List.{drop-drop}
use Rattle.std.proofs.lemmas.List.Edits.{sets-eq}
use Rattle.lists.specs.Texts.{Wrote}
use Rattle.spec.specs.Files.{little_endian}

pub put_is : (old bs ys : List ℕ) (at n : ℕ) → length bs ≡ n → at + n ≤ length old → ys ≡ bs → Wrote old at bs (put_mid at (at + n - at) old ys) (at + n)
put_is old bs ys at n e h q =
    let k : at + n - at ≡ n = omega arith in
    let z : n ≡ length bs = sym e in
    record {
      written = rw (k, q, drop-drop n at old, z) (sym (append_assoc (take at old) bs (drop (at + length bs) old)) ∙ sym (sets-eq bs old at (omega arith)));
      within = omega arith;
      place = omega arith;
    }

pub two_is : (n : ℕ) → to_le_bytes w16 n ≡ little_endian 2 n
unfolding little_endian
two_is n = refl

pub four_is : (n : ℕ) → to_le_bytes w32 n ≡ little_endian 4 n
unfolding little_endian
four_is n =
    let c : n / 65536 ≡ n / 256 / 256 = omega arith in
    let d : n / 16777216 ≡ n / 256 / 256 / 256 = omega arith in
    rw (c, d)

pub eight_is : (n : ℕ) → to_le_bytes w64 n ≡ little_endian 8 n
unfolding little_endian
eight_is n =
    let c : n / 65536 ≡ n / 256 / 256 = omega arith in
    let d : n / 16777216 ≡ n / 256 / 256 / 256 = omega arith in
    let e : n / 4294967296 ≡ n / 256 / 256 / 256 / 256 = omega arith in
    let f : n / 1099511627776 ≡ n / 256 / 256 / 256 / 256 / 256 = omega arith in
    let g : n / 281474976710656 ≡ n / 256 / 256 / 256 / 256 / 256 / 256 = omega arith in
    let h : n / 72057594037927936 ≡ n / 256 / 256 / 256 / 256 / 256 / 256 / 256 = omega arith in
    rw (c, d, e, f, g, h)
