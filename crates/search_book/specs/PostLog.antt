-- What contracts see of the posts of a search on a disk.
use Rattle.std.specs.Prelude.{ℕ, List, Option}
use Rattle.post_codec.specs.declared.post.Post.{Post}
use Rattle.shift_instance.specs.Problem.{Problem}
use Rattle.search_core.specs.Book.{Book}
use Rattle.search_core.specs.declared.board.Shutting.{Shutting}

pub record PostLogView (D : Type 0) : Type 0 where
  pub instance : Problem
  -- the posts with which it was opened, and those of each record that was made since
  pub opening : List Post
  pub batches : List (List Post)
  -- all these posts, from the first one in the file on, and the book that they make
  pub history : List Post
  pub book : Book
  pub disk : D
  -- the most bytes that its file may have
  pub limit : ℕ
  -- the disk when it was opened
  pub opened : D
  -- the bytes of its journal up to the closed gate, that one included
  pub used : ℕ
  -- the posts of the commit that ended in a disk fault, as a batch of their own
  pub in_flight : List (List Post)
  -- the posts of the commit for which there was no room
  pub unfit : List Post
  -- what shut it
  pub shut : Option Shutting
