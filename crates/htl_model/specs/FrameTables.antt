-- The numbers of a frame, as the code keeps them.
use Rattle.std.specs.Prelude.{◌≡◌, ◌+◌, ◌≤◌, [], ◌∷◌, ◌++◌, length, take}
use Rattle.htl_base.specs.declared.limits.TheConstants.{MAX_STARTS, MAX_ROUNDS}
use Rattle.htl_model.specs.{declared.frame.Frame.Frame, Frames.frame_of, Frames.starts, Frames.rounds, Frames.radices, Frames.paths, Frames.nodes, Frames.KeepsFrames, Tables.Tables}

-- the starts and the frame's end, the rounds, and the choices at each start
pub record IsFrame (t : Tables) (f : Frame) : Type 0 where
  pub limits : KeepsFrames t
  pub count : f.count ≡ length (starts t)
  pub starts : take (f.count + 1) f.starts ≡ starts t ++ frame_of t ∷ []
  pub room : length f.starts ≡ MAX_STARTS + 1
  pub round_count : f.round_count ≤ MAX_ROUNDS
  pub rounds : take f.round_count f.rounds ≡ rounds t
  pub radices : take f.count f.radices ≡ radices t
  pub radix_room : length f.radices ≡ MAX_STARTS
  pub paths : f.paths ≡ paths t
  pub nodes : f.nodes ≡ nodes t
