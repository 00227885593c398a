-- The first places of the lent buffers: what is done with them, of the whole ones.
use Rattle.std.specs.Prelude.{ℕ, ◌+◌, ◌-◌, ◌<◌, ◌≤◌, min, ◌≡◌, List, ◌++◌, length, get_or, take, drop}
use Rattle.std.proofs.Common.{arith, sym, ap, ◌∙◌, ⊎_elim, length-take, length-drop, length-take-le, get_or-take, get_or-drop, take_at, drop_at}
use Rattle.lists.specs.Shifts.{tab_same}
use Rattle.lists.specs.Tests.{less}
use Rattle.lists.specs.TestLaws.{less_true, less_false, cases}
use Rattle.lists.specs.Rows.{row}
use Rattle.spec.specs.Records.{Payload}
use Rattle.spec.specs.Steps.{Places, places, shortest}
use Rattle.buffers.specs.Buffers.{Buffers, buffers, places_of, row_in, rows_in, Unmoved, Beyond, Lends, first_of, others_of}

-- as many as are wanted
pub first_places : (w : Places) (b : Buffers) → Lends (places_of b) w → places_of (first_of w b) ≡ w
first_places w b n =
    λ i. places (length-take-le w.addresses b.addresses n.addresses i) (length-take-le w.values b.values n.values i)
    (length-take-le w.owners b.owners n.owners i)

-- ---- from the parts

-- the parts p, and the others behind them
abbrev pub behind : Places → Buffers → Buffers → Buffers
behind w p b =
    buffers (p.addresses ++ drop w.addresses b.addresses) (p.values ++ drop w.values b.values) (p.owners ++ drop w.owners b.owners)

front : (m : ℕ) (ks ps : List ℕ) → length ps ≡ length (take m ks) → m ≤ length ks → length ps ≡ m
front m ks ps e h = e ∙ length-take-le m ks h

module _ (w : Places) (b : Buffers) {p : Buffers} {k : ℕ} (n : Lends (places_of b) w) (h : Beyond k (first_of w b) p) where
  a : length p.addresses ≡ w.addresses
  a = front w.addresses b.addresses p.addresses h.addresses.size n.addresses

  v : length p.values ≡ w.values
  v = front w.values b.values p.values h.values.size n.values

  o : length p.owners ≡ w.owners
  o = front w.owners b.owners p.owners h.owners.size n.owners

  pub behind_first : first_of w (behind w p b) ≡ p
  behind_first =
      λ i. buffers (take_at p.addresses (drop w.addresses b.addresses) w.addresses a i)
      (take_at p.values (drop w.values b.values) w.values v i)
      (take_at p.owners (drop w.owners b.owners) w.owners o i)

  pub behind_others : others_of w (behind w p b) ≡ others_of w b
  behind_others =
      λ i. buffers (drop_at p.addresses (drop w.addresses b.addresses) w.addresses a i)
      (drop_at p.values (drop w.values b.values) w.values v i)
      (drop_at p.owners (drop w.owners b.owners) w.owners o i)

-- ---- to the whole

pub unmoved_part : (j m : ℕ) (ks ks' : List ℕ) → m ≤ length ks → Unmoved j (take m ks) (take m ks') → drop m ks' ≡ drop m ks → Unmoved j ks ks'
unmoved_part j m ks ks' h b e =
    let a : length (take m ks') ≡ length (take m ks) = b.size in
    let a' : length (take m ks) ≡ m = length-take-le m ks h in
    let a'' : length (take m ks') ≡ min m (length ks') = length-take m ks' in
    let d : length ks' - m ≡ length ks - m = sym (length-drop m ks') ∙ ap length e ∙ length-drop m ks in
    record {
      size = let z : length ks' ≡ length ks = omega arith in z;
      same =
          λ p q. ⊎_elim
          (λ t. let i : p < m = less_true p m t in sym (get_or-take m ks' p 0 i) ∙ b.same p q ∙ get_or-take m ks p 0 i)
          (λ t. let i : m ≤ p = less_false p m t in
          let s : m + (p - m) ≡ p = omega arith in
          ap (λ (x : ℕ). get_or ks' x 0) (sym s)
          ∙ sym (get_or-drop m ks' (p - m) 0)
          ∙ ap (λ (xs : List ℕ). get_or xs (p - m) 0) e
          ∙ get_or-drop m ks (p - m) 0
          ∙ ap (λ (x : ℕ). get_or ks x 0) s)
          (cases (less p m));
    }

pub beyond_part : {j : ℕ} (w : Places) (b b' : Buffers) → Lends (places_of b) w → Beyond j (first_of w b) (first_of w b') → others_of w b' ≡ others_of w b → Beyond j b b'
beyond_part {j} w b b' n h e =
    record {
      addresses =
          unmoved_part j w.addresses b.addresses b'.addresses n.addresses h.addresses (ap (λ (x : Buffers). x.addresses) e);
      values = unmoved_part j w.values b.values b'.values n.values h.values (ap (λ (x : Buffers). x.values) e);
      owners = unmoved_part j w.owners b.owners b'.owners n.owners h.owners (ap (λ (x : Buffers). x.owners) e);
    }

pub rows_part : (n : ℕ) (w : Places) (b : Buffers) → n ≤ shortest w → rows_in n (first_of w b) ≡ rows_in n b
unfolding rows_in shortest
rows_part n w b h =
    tab_same (row_in (first_of w b)) (row_in b) n
    (λ x q. let e = get_or-take w.addresses b.addresses x 0 (let z : x < w.addresses = omega arith in z) in
    let f = get_or-take w.values b.values x 0 (let z : x < w.values = omega arith in z) in
    let g = get_or-take w.owners b.owners x 0 (let z : x < w.owners = omega arith in z) in
    λ i. row {A = Payload} (e i) (record { value = f i; owner = g i }))
