-- Charges without those of the days before a day.
use Rattle.std.proofs.Common.{◌≡◌, ℕ, zero, suc, ◌+◌, ◌<◌, ◌≤◌, Bool, true, false, cond, ◌&&◌, nat_le, nat_lt, unwrap_or, List, [], ◌∷◌, length, filter, Option, None, refl, sym, ap, ◌∙◌, arith}
use Rattle.std.specs.List.{slice_index_or}
use Rattle.std.specs.Map.{lookup}
use Rattle.std.proofs.lemmas.Bool.{and_right, le-ltb, ltb-false}
use Rattle.std.proofs.lemmas.Map.Entries.{lookup-filter-keys}
use Rattle.gt_base.specs.declared.events.RoleId.{RoleId}
use Rattle.gt_base.specs.declared.events.UserId.{UserId}
use Rattle.gtrbac_model.specs.Same.{same_role, same_user}
use Rattle.session_table.specs.declared.charges.Charge.{Charge}
use Rattle.session_table.specs.declared.whole.Whole.{Whole}
use Rattle.session_table.specs.Charges.{charge_eq, charged_by_rows, covering, covers}
use Rattle.session_table.specs.ChargedDays.{AllBefore}
use Rattle.session_table.proofs.Indexing.{count_cons}
use Rattle.session_table.proofs.Writing.{key_is}

unwrapped_or_none : (b : Bool) (o : Option ℕ) → unwrap_or (cond b o None) 0 ≡ cond b (unwrap_or o 0) 0
unwrapped_or_none true o = refl
unwrapped_or_none false o = refl

-- rows say as before of the days that are kept, and nothing of the others
pub rows_kept : (day : ℕ) (rows : List (Charge × ℕ)) (u : UserId) (r : RoleId) (d : ℕ)
    → charged_by_rows (filter (λ e. nat_le day e.0.day) rows) u r d ≡ cond (nat_le day d) (charged_by_rows rows u r d) 0
rows_kept day rows u r d =
    let key : Charge = record { user = u; role = r; day = d } in
    ap (λ (o : Option ℕ). unwrap_or o 0)
    (lookup-filter-keys (charge_eq key) (λ (k : Charge). nat_le day k.day) (nat_le day d) (λ k e. ap (λ (x : Charge). nat_le day x.day) (sym (key_is key k e))) rows)
    ∙ unwrapped_or_none (nat_le day d) (lookup (charge_eq key) rows)

-- a stretch that ends before the day has no later one
pub stretches_kept : (day : ℕ) (ws : List Whole) (u : UserId) (r : RoleId) (d : ℕ) → day ≤ d → covering (filter (λ w. nat_lt day w.past) ws) u r d ≡ covering ws u r d
stretches_kept day [] u r d le = refl
stretches_kept day (w ∷ ws) u r d le = by (nat_lt day w.past) refl (stretches_kept day ws u r d le) ∙ sym (count_cons (covers u r d) w ws)
  where
    by : (b : Bool) → nat_lt day w.past ≡ b → covering (filter (λ w. nat_lt day w.past) ws) u r d ≡ covering ws u r d
        → covering (cond b (w ∷ filter (λ w. nat_lt day w.past) ws) (filter (λ w. nat_lt day w.past) ws)) u r d ≡ cond (covers u r d w) 1 0 + covering ws u r d
    by true e h = count_cons (covers u r d) w (filter (λ w. nat_lt day w.past) ws) ∙ ap (λ n. cond (covers u r d w) 1 0 + n) h
    by false e h =
        let past : w.past ≤ day = ltb-false day w.past e in
        let not_here : nat_lt d w.past ≡ false = le-ltb d w.past (omega (arith, past, le)) in
        let not_covered : covers u r d w ≡ false = and_right (same_user w.user u && same_role w.role r) (nat_le w.first d && nat_lt d w.past) (and_right (nat_le w.first d) (nat_lt d w.past) not_here) in
        let one : ◌≡◌ {A = ℕ} (cond (covers u r d w) 1 0) 0 = ap (λ b. cond b 1 0) not_covered in
        omega (arith, h, one)

-- those that are left end before a day as all did
pub still_before : (over : ℕ) (p : Whole → Bool) (ws : List Whole) → AllBefore over ws → AllBefore over (filter p ws)
still_before over p [] h = h
still_before over p (w ∷ ws) h = by (p w) (still_before over p ws (λ i d lt. h (suc i) d (omega (arith, lt))))
  where
    first : (xs : List Whole) → AllBefore over xs → (i : ℕ) (d : Whole) → i < length (w ∷ xs) → (slice_index_or (w ∷ xs) i d).past ≤ over
    first xs k zero d lt = h 0 d (omega arith)
    first xs k (suc i) d lt = k i d (omega (arith, lt))

    by : (b : Bool) → AllBefore over (filter p ws) → AllBefore over (cond b (w ∷ filter p ws) (filter p ws))
    by true k = first (filter p ws) k
    by false k = k

pub at_most : (b : Bool) (n : ℕ) → cond b n 0 ≤ n
at_most true n = omega arith
at_most false n = omega arith
