-- A line as an operation of the engine, and the line that is written for its reply.
use Rattle.std.specs.Prelude.{ℕ, Result, Ok, Err, Some, None, Option as Optional, zero, suc, ◌+◌, ◌*◌, ◌^◌, ◌<◌, ◌≤◌, ◌≡◌, length, take, get_or}
use Rattle.std.proofs.Common.{not-suc-le-zero, le_of_suc-le-suc, arith, sym, ◌∙◌, subst, length-append}
use Rattle.std.proofs.Math.Path.{refl, ap}
use mathlib.Core.List.{List, [], ◌∷◌, ◌++◌}
use Rattle.lists.specs.Rows.{row}
use Rattle.lists.specs.Tabulation.{tab_from, tab}
use Rattle.lists.specs.Shifts.{tab_cons}
use Rattle.lists.specs.Texts.{Wrote}
use Rattle.spec.specs.declared.Refusal.{Refusal}
use Rattle.spec.specs.Refusals.{number_of}
use Rattle.spec.specs.Records.{Payload}
use Rattle.spec.specs.Steps as model
use Rattle.script.specs.declared.Line.{Line}
use Rattle.script.specs.Grammar.{step_of}
use Rattle.answers.specs.Output.{field, absent, triple, triples, triples_of, answer_text}
use Rattle.answers.specs.OutputLaws.{triple_most}
use Rattle.buffers.specs.Buffers.{Buffers, buffers, row_in, rows_in}
use Rattle.buffers.specs.BufferLaws.{length_rows}
use Rattle.script.specs.declared.Line.TheVariants as line
use Rattle.engine.specs.declared.steps.Access.TheVariants as access
use Rattle.engine.specs.declared.steps.Ending.TheVariants as ending
use Rattle.engine.specs.declared.steps.Op.{Op}
use Rattle.engine.specs.declared.steps.Op.TheVariants as op
use Rattle.accesses.specs.declared.reads.ReadValue.{ReadValue}
use Rattle.accesses.specs.declared.reads.Found.{Found}
use Rattle.engine.specs.declared.steps.Told.{Told}
use Rattle.engine.specs.declared.steps.Told.TheVariants as told
use Rattle.engine.specs.Performs.{step_in, reply_in}

-- o is the operation that a line asks for, whatever the places of a scan's three buffers
pub record Asks (l : Line) (o : Op) : Type 0 where
  pub step : (n : ℕ) → step_in o (model.places n n n) ≡ step_of n l

abbrev pub op_of : Line → Op
op_of (line.Begin w) = op.Begin w
op_of (line.Read w k) = op.Access w (access.Read k)
op_of (line.Scan w lo hi) = op.Access w (access.Scan lo hi)
op_of (line.Put w k v o) = op.Access w (access.Put k v o)
op_of (line.Remove w k) = op.Access w (access.Remove k)
op_of (line.Lock w) = op.Ending w ending.Lock
op_of (line.Validate w) = op.Ending w ending.Validate
op_of (line.Install w) = op.Ending w ending.Install
op_of (line.Abort w) = op.Ending w ending.Abort
op_of (line.Merge k) = op.Merge k
op_of line.MergeOldest = op.MergeOldest

of_line : (l : Line) → Asks l (op_of l)
of_line (line.Begin w) = record { step = λ n. refl }
of_line (line.Read w k) = record { step = λ n. refl }
of_line (line.Scan w lo hi) = record { step = λ n. refl }
of_line (line.Put w k v o) = record { step = λ n. refl }
of_line (line.Remove w k) = record { step = λ n. refl }
of_line (line.Lock w) = record { step = λ n. refl }
of_line (line.Validate w) = record { step = λ n. refl }
of_line (line.Install w) = record { step = λ n. refl }
of_line (line.Abort w) = record { step = λ n. refl }
of_line (line.Merge k) = record { step = λ n. refl }
of_line line.MergeOldest = record { step = λ n. refl }

pub asks : {l s : Line} {o : Op} → l ≡ s → o ≡ op_of s → Asks l o
asks {l} {s} {o} e f = subst (λ (x : Op). Asks l x) (sym f) (subst (λ (x : Line). Asks x (op_of s)) (sym e) (of_line s))

-- the line that is written for a reply to a line with the letter c, with a scan's buffers
unfoldable pub reply_text : ℕ → Result Told Refusal → Buffers → List ℕ
reply_text c p b = c ∷ answer_text (reply_in p b) ++ (10 ∷ [])

-- it stands in the bytes from a place on, all others are as before, and next is the place after it
pub record Replies (c : ℕ) (p : Result Told Refusal) (b : Buffers) (old : List ℕ) (at : ℕ) (new : List ℕ) (next : ℕ) : Type 0 where
  pub wrote : Wrote old at (reply_text c p b) new next

-- ---- a scan's buffers

rows_cons : (n k v o : ℕ) (ks vs os : List ℕ)
    → rows_in (suc n) (buffers (k ∷ ks) (v ∷ vs) (o ∷ os)) ≡ row k (record { value = v; owner = o }) ∷ rows_in n (buffers ks vs os)
unfolding rows_in
rows_cons n k v o ks vs os =
    tab_cons (row_in (buffers (k ∷ ks) (v ∷ vs) (o ∷ os))) (row_in (buffers ks vs os)) n (λ i h. refl)

rows_none : (b : Buffers) → rows_in 0 b ≡ []
unfolding rows_in tab tab_from
rows_none b = refl

rows_triples : (n : ℕ) (ks vs os : List ℕ) → n ≤ length ks → n ≤ length vs → n ≤ length os
    → triples (λ (p : Payload). p) (rows_in n (buffers ks vs os)) ≡ triples_of (take n ks) (take n vs) (take n os)
unfolding triples triples_of
rows_triples zero ks vs os h g f = ap (triples (λ (p : Payload). p)) (rows_none (buffers ks vs os))
rows_triples (suc n) [] vs os h g f = absurd (not-suc-le-zero h)
rows_triples (suc n) (k ∷ ks) [] os h g f = absurd (not-suc-le-zero g)
rows_triples (suc n) (k ∷ ks) (v ∷ vs) [] h g f = absurd (not-suc-le-zero f)
rows_triples (suc n) (k ∷ ks) (v ∷ vs) (o ∷ os) h g f =
    ap (triples (λ (p : Payload). p)) (rows_cons n k v o ks vs os)
    ∙ ap (λ (x : List ℕ). triple k v o ++ x) (rows_triples n ks vs os (le_of_suc-le-suc h) (le_of_suc-le-suc g) (le_of_suc-le-suc f))

-- ---- the line of each reply, as the functions write it

module _ {c at j : ℕ} {l m : List ℕ} {f : Found} (b : Buffers) where
  found_line : (o : Optional ReadValue) → f.value ≡ o → Wrote l at (reply_text c (Ok (told.Found (record { value = o; examined = f.examined }))) b) m j
      → Replies c (Ok (told.Found f)) b l at m j
  found_line o e w =
      record {
        wrote = subst (λ (o : Optional ReadValue). Wrote l at (reply_text c (Ok (told.Found (record { value = o; examined = f.examined }))) b) m j) (sym e) w;
      }

  pub wrote_value : {v : ReadValue} → f.value ≡ Some v
      → Wrote l at ((c ∷ field 0 ++ field v.value ++ field v.owner ++ field f.examined) ++ (10 ∷ [])) m j → Replies c (Ok (told.Found f)) b l at m j
  unfolding reply_text answer_text
  wrote_value {v} e w = found_line (Some v) e w

  pub wrote_absent : f.value ≡ None → Wrote l at ((c ∷ field 0 ++ absent ++ field f.examined) ++ (10 ∷ [])) m j → Replies c (Ok (told.Found f)) b l at m j
  unfolding reply_text answer_text
  wrote_absent e w = found_line None e w

module _ {c at j : ℕ} {ks vs os l m : List ℕ} where
  named : {p : Result Told Refusal} (q : Result Told Refusal) (t : List ℕ) → p ≡ q → reply_text c q (buffers ks vs os) ≡ t → Wrote l at t m j
      → Replies c p (buffers ks vs os) l at m j
  named q t e f w =
      record {
        wrote = subst (λ (x : Result Told Refusal). Wrote l at (reply_text c x (buffers ks vs os)) m j) (sym e) (subst (λ (x : List ℕ). Wrote l at x m j) (sym f) w);
      }

  -- a reply by its other name
  pub replies_as : {p q : Result Told Refusal} → p ≡ q → Replies c q (buffers ks vs os) l at m j → Replies c p (buffers ks vs os) l at m j
  replies_as e w = subst (λ (x : Result Told Refusal). Replies c x (buffers ks vs os) l at m j) (sym e) w

  pub wrote_refused : {p : Result Told Refusal} (r : Refusal) (n : ℕ) → p ≡ Err r → n ≡ number_of r → Wrote l at ((c ∷ field n) ++ (10 ∷ [])) m j
      → Replies c p (buffers ks vs os) l at m j
  unfolding reply_text answer_text
  wrote_refused r n e f w = named (Err r) _ e refl (subst (λ (x : ℕ). Wrote l at ((c ∷ field x) ++ (10 ∷ [])) m j) f w)

  module _ {t : Told} where
    pub wrote_granted : t ≡ told.Nothing → Wrote l at ((c ∷ field 0) ++ (10 ∷ [])) m j → Replies c (Ok t) (buffers ks vs os) l at m j
    unfolding reply_text answer_text
    wrote_granted e w = named (Ok told.Nothing) _ (ap Ok e) refl w

    pub wrote_found : (f : Found) → t ≡ told.Found f → Replies c (Ok (told.Found f)) (buffers ks vs os) l at m j → Replies c (Ok t) (buffers ks vs os) l at m j
    wrote_found f e w = replies_as (ap Ok e) w

    pub wrote_numbered : (n : ℕ) → t ≡ told.Numbered n → Wrote l at ((c ∷ field 0 ++ field n) ++ (10 ∷ [])) m j → Replies c (Ok t) (buffers ks vs os) l at m j
    unfolding reply_text answer_text
    wrote_numbered n e w = named (Ok (told.Numbered n)) _ (ap Ok e) refl w

    pub wrote_counted : (n : ℕ) → t ≡ told.Counted n → Wrote l at ((c ∷ field 0 ++ field n) ++ (10 ∷ [])) m j → Replies c (Ok t) (buffers ks vs os) l at m j
    unfolding reply_text answer_text
    wrote_counted n e w = named (Ok (told.Counted n)) _ (ap Ok e) refl w

    pub wrote_listed : (n : ℕ) → t ≡ told.Listed n → n ≤ length ks → n ≤ length vs → n ≤ length os
        → Wrote l at ((c ∷ field 0 ++ field n ++ triples_of (take n ks) (take n vs) (take n os)) ++ (10 ∷ [])) m j → Replies c (Ok t) (buffers ks vs os) l at m j
    unfolding reply_text answer_text
    wrote_listed n e h g f w =
        named (Ok (told.Listed n)) _ (ap Ok e)
        (ap (λ (x : ℕ). c ∷ (field 0 ++ field x ++ triples (λ (q : Payload). q) (rows_in n (buffers ks vs os))) ++ (10 ∷ [])) (length_rows n (buffers ks vs os))
        ∙ ap (λ (x : List ℕ). c ∷ (field 0 ++ field n ++ x) ++ (10 ∷ [])) (rows_triples n ks vs os h g f)) w

-- ---- how long triples are

pub triples_most : (n : ℕ) (ks vs os : List ℕ) → ((i : ℕ) → get_or ks i 0 < 2 ^ 64) → ((i : ℕ) → get_or vs i 0 < 2 ^ 64) → ((i : ℕ) → get_or os i 0 < 2 ^ 64)
    → length (triples_of (take n ks) (take n vs) (take n os)) ≤ 63 * n
unfolding triples_of
triples_most zero ks vs os h g f = omega arith
triples_most (suc n) [] vs os h g f = omega arith
triples_most (suc n) (k ∷ ks) [] os h g f = omega arith
triples_most (suc n) (k ∷ ks) (v ∷ vs) [] h g f = omega arith
triples_most (suc n) (k ∷ ks) (v ∷ vs) (o ∷ os) h g f =
    let others = triples_of (take n ks) (take n vs) (take n os) in
    let e : length (triple k v o ++ others) ≡ length (triple k v o) + length others = length-append (triple k v o) others in
    let one : length (triple k v o) ≤ 63 = triple_most k v o (h 0) (g 0) (f 0) in
    let rest : length others ≤ 63 * n = triples_most n ks vs os (λ i. h (suc i)) (λ i. g (suc i)) (λ i. f (suc i)) in
    omega arith
