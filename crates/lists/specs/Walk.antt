-- What links and ends stand for: the list of the nodes of each container.
use Rattle.std.specs.Prelude.{◌≡◌, ℕ, zero, suc, ◌<◌, cond, ◌≢◌, ◌⊎◌, List, [], ◌∷◌, length, Some, None, Option, ◌==◌, slice_index_or, slice_set}
use Rattle.lists.specs.declared.links.Links.{Links}
use Rattle.lists.specs.declared.links.Ends.{Ends}

-- What a node keeps; past the last node, what an unlinked node keeps.
abbrev pub links_at : List Links → ℕ → Links
links_at L x = slice_index_or L x (record { container = None; prev = None; next = None })

-- What a container keeps; past the last container, what an empty one keeps.
abbrev pub ends_at : List Ends → ℕ → Ends
ends_at E c = slice_index_or E c (record { head = None; tail = None })

abbrev pub home_of : List Links → ℕ → Option ℕ
home_of L x = (links_at L x).container

-- The nodes from o on, by the links to the next node, at most n of them.
abbrev pub walk : ℕ → List Links → Option ℕ → List ℕ
walk zero L o = []
walk (suc n) L None = []
walk (suc n) L (Some x) = x ∷ walk n L (links_at L x).next

-- The nodes of the container c, in their order.
abbrev pub members : List Links → List Ends → ℕ → List ℕ
members L E c = walk (length L) L (ends_at E c).head

-- What follows the place o in the list of c, and what precedes it: None is the place before the first node, and behind the last.
abbrev pub fwd : List Links → List Ends → ℕ → Option ℕ → Option ℕ
fwd L E c None = (ends_at E c).head
fwd L E c (Some x) = (links_at L x).next

abbrev pub bwd : List Links → List Ends → ℕ → Option ℕ → Option ℕ
bwd L E c None = (ends_at E c).tail
bwd L E c (Some x) = (links_at L x).prev

-- From the place a on, f leads through xs to the end, and g leads back.
abbrev pub Chain : (Option ℕ → Option ℕ) → (Option ℕ → Option ℕ) → Option ℕ → List ℕ → Type 0
Chain f g a [] = (f a ≡ None) × (g None ≡ a)
Chain f g a (x ∷ xs) = (f a ≡ Some x) × (g (Some x) ≡ a) × Chain f g (Some x) xs

abbrev pub In : ℕ → List ℕ → Type 0
In x [] = ⊥
In x (y ∷ ys) = (x ≡ y) ⊎ In x ys

-- No node twice.
abbrev pub Apart : List ℕ → Type 0
Apart [] = Unit {0}
Apart (x ∷ xs) = (In x xs → ⊥) × Apart xs

-- The links and ends hold the list `ms c` for each container c.
pub record Shape (L : List Links) (E : List Ends) (ms : ℕ → List ℕ) : Type 0 where
  pub chain : (c : ℕ) → Chain (fwd L E c) (bwd L E c) None (ms c)
  pub apart : (c : ℕ) → Apart (ms c)
  pub home : (c x : ℕ) → In x (ms c) → home_of L x ≡ Some c
  pub held : (c x : ℕ) → home_of L x ≡ Some c → In x (ms c)
  pub bound : (c x : ℕ) → home_of L x ≡ Some c → c < length E
  pub free : (x : ℕ) → home_of L x ≡ None → ((links_at L x).next ≡ None) × ((links_at L x).prev ≡ None)

abbrev pub Sound : List Links → List Ends → Type 0
Sound L E = Shape L E (members L E)

-- The place before vs, and the last place of xs, which comes after a.
abbrev pub first_of : List ℕ → Option ℕ
first_of [] = None
first_of (b ∷ vs) = Some b

abbrev pub last_of : Option ℕ → List ℕ → Option ℕ
last_of a [] = a
last_of a (x ∷ xs) = last_of (Some x) xs

-- The element behind x, and the one before it, where x stands first.
abbrev pub after : ℕ → List ℕ → Option ℕ
after x [] = None
after x (y ∷ ys) = cond (x == y) (first_of ys) (after x ys)

abbrev pub before_from : Option ℕ → ℕ → List ℕ → Option ℕ
before_from a x [] = None
before_from a x (y ∷ ys) = cond (x == y) a (before_from (Some y) x ys)

abbrev pub before : ℕ → List ℕ → Option ℕ
before x xs = before_from None x xs

-- The neighbours of the node x, where o is the container that it is in.
abbrev pub next_in : (ℕ → List ℕ) → Option ℕ → ℕ → Option ℕ
next_in ms None x = None
next_in ms (Some c) x = after x (ms c)

abbrev pub prev_in : (ℕ → List ℕ) → Option ℕ → ℕ → Option ℕ
prev_in ms None x = None
prev_in ms (Some c) x = before x (ms c)

abbrev pub insert_after : ℕ → ℕ → List ℕ → List ℕ
insert_after m n [] = []
insert_after m n (x ∷ xs) = cond (m == x) (x ∷ n ∷ xs) (x ∷ insert_after m n xs)

abbrev pub insert_before : ℕ → ℕ → List ℕ → List ℕ
insert_before m n [] = []
insert_before m n (x ∷ xs) = cond (m == x) (n ∷ x ∷ xs) (x ∷ insert_before m n xs)

abbrev pub without : ℕ → List ℕ → List ℕ
without n [] = []
without n (x ∷ xs) = cond (n == x) xs (x ∷ without n xs)

-- The next, or the head, becomes o.
abbrev pub with_next : Links → Option ℕ → Links
with_next l o = record { container = l.container; prev = l.prev; next = o }

abbrev pub with_prev : Links → Option ℕ → Links
with_prev l o = record { container = l.container; prev = o; next = l.next }

abbrev pub put_next : List Links → Option ℕ → Option ℕ → List Links
put_next L None o = L
put_next L (Some x) o = slice_set L x (with_next (links_at L x) o)

abbrev pub put_prev : List Links → Option ℕ → Option ℕ → List Links
put_prev L None o = L
put_prev L (Some x) o = slice_set L x (with_prev (links_at L x) o)

abbrev pub put_head : List Ends → ℕ → Option ℕ → Option ℕ → List Ends
put_head E c None o = slice_set E c (record { head = o; tail = (ends_at E c).tail })
put_head E c (Some x) o = E

abbrev pub put_tail : List Ends → ℕ → Option ℕ → Option ℕ → List Ends
put_tail E c None o = slice_set E c (record { head = (ends_at E c).head; tail = o })
put_tail E c (Some x) o = E

-- a place is a node or the end
abbrev pub Place : List Links → Option ℕ → Type 0
Place L None = Unit {0}
Place L (Some x) = x < length L

-- One node is linked or unlinked: the container c has the list xs, the node n has the home o, and all else is as it was.
pub record Relinked (L : List Links) (E : List Ends) (L' : List Links) (E' : List Ends) (c : ℕ) (xs : List ℕ) (n : ℕ) (o : Option ℕ) : Type 0 where
  pub here : members L' E' c ≡ xs
  pub others : (k : ℕ) → (k ≢ c) → members L' E' k ≡ members L E k
  pub moved : home_of L' n ≡ o
  pub stay : (x : ℕ) → (x ≢ n) → home_of L' x ≡ home_of L x
  pub nodes : length L' ≡ length L
  pub containers : length E' ≡ length E

-- The next of p and the prev of q are written, each an end of c where the place is None; then the node n's links.
abbrev pub patch_links : List Links → Option ℕ → Option ℕ → Option ℕ → Option ℕ → ℕ → Links → List Links
patch_links L p a q b n l = slice_set (put_prev (put_next L p a) q b) n l

abbrev pub patch_ends : List Ends → ℕ → Option ℕ → Option ℕ → Option ℕ → Option ℕ → List Ends
patch_ends E c p a q b = put_tail (put_head E c p a) c q b
