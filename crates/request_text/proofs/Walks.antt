-- Texts in their pieces.
use Rattle.std.proofs.Common.{◌≡◌, ℕ, ◌+◌, length, length-append, List, [], ◌∷◌, ◌++◌, flat_map, sym, ◌∙◌, ap, append-nil, append_assoc}
use Rattle.std.specs.Prelude.{codes, map}
use Rattle.gt_base.specs.Held.{RoleWalk}
use Rattle.gt_base.specs.declared.events.RoleId.{RoleId}
use Rattle.gt_text.specs.Words.{spaced, joined_by}
use Rattle.policy_lines.specs.Spaces.{later, led}
use Rattle.policy_lines.proofs.Written.{later-append, led_is_spaced}
use Rattle.policy_words.specs.declared.parts.NamedHead.{NamedHead}
use Rattle.policy_words.specs.Wording.{head_words, delay_words, fluent_names}
use Rattle.policy_words.specs.Naming.{NamedPolicy, role_name}
use Rattle.request_text.specs.Replies.{arrow, junior_text, walk_text}
use Rattle.request_text.specs.Walks.{step_name, walk_led}

joined_led : (first : List ℕ) (f : ℕ → List ℕ) (ns : List ℕ) → joined_by arrow (first ∷ map f ns) ≡ first ++ flat_map (λ n. arrow ++ f n) ns
joined_led first f [] = sym (append-nil first)
joined_led first f (n ∷ ns) = ap (λ t. first ++ arrow ++ t) (joined_led (f n) f ns) ∙ append_assoc first arrow (f n ++ flat_map (λ n. arrow ++ f n) ns)

pub walk_is_led : (np : NamedPolicy) (w : RoleWalk) → walk_text np w ≡ walk_led np w
walk_is_led np w = joined_led (role_name np.names w.start) (junior_text np) w.edges

behind : (w : List ℕ) (ns ds : List (List ℕ)) → spaced (w ∷ ns ++ ds) ≡ spaced (w ∷ ns) ++ later ds
behind w ns ds =
    sym (led_is_spaced (w ∷ ns ++ ds)) ∙ ap (λ t. w ++ t) (later-append ns ds) ∙ sym (append_assoc w (later ns) (later ds)) ∙ ap (λ t. t ++ later ds) (led_is_spaced (w ∷ ns))

pub delayed : (h : NamedHead) (d : ℕ) → spaced (head_words h ++ delay_words d) ≡ spaced (head_words h) ++ later (delay_words d)
delayed h d = behind _ (fluent_names h.event.fluent) (delay_words d)

-- two pieces one after the other
pub and_then : (old mid new a b : List ℕ) → mid ≡ old ++ a → new ≡ mid ++ b → new ≡ old ++ (a ++ b)
and_then old mid new a b e f = f ∙ ap (λ t. t ++ b) e ∙ append_assoc old a b

-- a requested event behind the first word, then its delay
pub raise_pushed : (old led mid new : List ℕ) (h g : NamedHead) (d : ℕ) → led ≡ old ++ codes "request " → g ≡ h → mid ≡ led ++ spaced (head_words g) → new ≡ mid ++ later (delay_words d)
    → new ≡ old ++ (codes "request " ++ spaced (head_words h ++ delay_words d))
raise_pushed old led mid new h g d e is f k =
    let head = and_then old led mid (codes "request ") (spaced (head_words g)) e f in
    and_then old mid new (codes "request " ++ spaced (head_words g)) (later (delay_words d)) head k
    ∙ ap (λ t. old ++ (codes "request " ++ t)) (sym (delayed g d) ∙ ap (λ (x : NamedHead). spaced (head_words x ++ delay_words d)) is)

-- a walk behind a piece: its start, then its edges
module _ (np : NamedPolicy) (w : RoleWalk) (start : RoleId) (edges piece : List ℕ) (first : start ≡ w.start) (same : edges ≡ w.edges) where
  walk_parts : piece ++ role_name np.names start ++ flat_map (step_name np) edges ≡ piece ++ walk_text np w
  walk_parts =
      ap (λ (s : RoleId). piece ++ role_name np.names s ++ flat_map (step_name np) edges) first
      ∙ ap (λ es. piece ++ role_name np.names w.start ++ flat_map (step_name np) es) same
      ∙ append_assoc piece (role_name np.names w.start) (flat_map (step_name np) w.edges)
      ∙ ap (λ t. piece ++ t) (sym (walk_is_led np w))

  pub walk_put : (old mid new : List ℕ) → mid ≡ old ++ (piece ++ role_name np.names start) → new ≡ mid ++ flat_map (step_name np) edges → new ≡ old ++ (piece ++ walk_text np w)
  walk_put old mid new e f = and_then old mid new (piece ++ role_name np.names start) (flat_map (step_name np) edges) e f ∙ ap (λ t. old ++ t) walk_parts

  pub walk_length : length (piece ++ walk_text np w) ≡ length (piece ++ role_name np.names start) + length (flat_map (step_name np) edges)
  walk_length = ap length (sym walk_parts) ∙ length-append (piece ++ role_name np.names start) (flat_map (step_name np) edges)

-- a tick's pieces
pub tick_pushed : (old led mid told new front who a to b upto : List ℕ) → led ≡ old ++ front → mid ≡ led ++ who → told ≡ mid ++ (a ++ to) → new ≡ told ++ (b ++ upto)
    → new ≡ old ++ (front ++ who ++ a ++ to ++ b ++ upto)
tick_pushed old led mid told new front who a to b upto d e f g =
    let two = and_then old led mid front who d e in
    let four = and_then old mid told (front ++ who) (a ++ to) two f ∙ ap (λ t. old ++ t) (sym (append_assoc (front ++ who) a to)) in
    and_then old told new (front ++ who ++ a ++ to) (b ++ upto) four g ∙ ap (λ t. old ++ t) (sym (append_assoc (front ++ who ++ a ++ to) b upto))
