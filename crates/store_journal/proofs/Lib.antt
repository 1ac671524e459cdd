mod WaitLaws
mod FrameLaws
